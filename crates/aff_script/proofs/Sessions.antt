-- What sessions say, line by line.
use Rattle.std.proofs.Common.{◌≡◌, ℕ, ◌+◌, ◌<◌, ◌≤◌, ◌⊎◌, inl, inr, Bool, true, false, not, ◌==◌, List, [], ◌∷◌, ◌++◌, length, get_or, set, take, map, refl, sym, ap, subst, ◌∙◌, arith, All, append_assoc, length-append}
use Rattle.std.specs.Prelude.{IsTrue}
use Rattle.std.specs.List.{AllByRecursion, list_any}
use Rattle.std.proofs.lemmas.List.{append-nil, map-append}
use Rattle.std.proofs.lemmas.Bool.Decides.{leb_tells, nat_tests}
use Rattle.std.proofs.lemmas.List.Elements.{All-nil, All-push}
use Rattle.aff_model.specs.declared.limits.TheConstants.{MAX_READ, MAX_REQUESTS, MAX_SESSIONS}
use Rattle.aff_script.specs.declared.line.Form.{Form}
use Rattle.aff_script.specs.declared.line.Form.TheVariants as form
use Rattle.aff_script.specs.declared.line.Said.{Said}
use Rattle.aff_script.specs.declared.line.Said.TheVariants.{Begin, Ask}
use Rattle.aff_script.specs.declared.script.Request.{Request}
use Rattle.aff_script.specs.declared.script.Request.TheVariants.{Read, Raise, Await, After}
use Rattle.aff_script.specs.Line.{form_of}
use Rattle.aff_script.specs.Reading.{Adds, IsTaken}
use Rattle.aff_script.specs.Refused.{EndsWith, IsFull, IsPastEnd, IsTooLong, MayStand, SaysThere, is_after}
use Rattle.aff_script.specs.Script.{EndsInReads, IsRead, IsRequest, IsScript, IsSession, said_by}
use Rattle.aff_script.proofs.Lists.{all_at, all_before, halves, last_at, last_set, same_push}

-- one request more is said at the end
said_by-ask : (earlier : List (List Request)) (requests : List Request) (r : Request) → said_by (earlier ++ (requests ++ r ∷ []) ∷ []) ≡ said_by (earlier ++ requests ∷ []) ++ Ask r ∷ []
said_by-ask [] requests r =
    let asked : map Ask (requests ++ r ∷ []) ++ [] ≡ (map Ask requests ++ []) ++ Ask r ∷ [] =
    append-nil (map Ask (requests ++ r ∷ [])) ∙ map-append Ask requests (r ∷ []) ∙ ap (λ v. v ++ Ask r ∷ []) (sym (append-nil (map Ask requests))) in
    ap (λ v. Begin ∷ v) asked
said_by-ask (e ∷ earlier) requests r =
    ap (λ v. Begin ∷ map Ask e ++ v) (said_by-ask earlier requests r)
    ∙ ap (λ v. Begin ∷ v) (sym (append_assoc (map Ask e) (said_by (earlier ++ requests ∷ [])) (Ask r ∷ [])))

-- and so is the beginning of one session more
said_by-begin : (sessions : List (List Request)) → said_by (sessions ++ [] ∷ []) ≡ said_by sessions ++ Begin ∷ []
said_by-begin [] = refl
said_by-begin (e ∷ sessions) =
    ap (λ v. Begin ∷ map Ask e ++ v) (said_by-begin sessions) ∙ ap (λ v. Begin ∷ v) (sym (append_assoc (map Ask e) (said_by sessions) (Begin ∷ [])))

pub adds_said : (sessions : List (List Request)) (said : Said) (more : List (List Request)) → Adds sessions said more → said_by more ≡ said_by sessions ++ said ∷ []
adds_said sessions Begin more is = ap said_by is ∙ said_by-begin sessions
adds_said sessions (Ask r) more (earlier, requests, was, is) =
    ap said_by is ∙ said_by-ask earlier requests r ∙ ap (λ v. said_by v ++ Ask r ∷ []) (sym was)

-- reads behind `after`
reads_push_all : (requests : List Request) (r : Request) → AllByRecursion IsRead requests → IsRead r → AllByRecursion IsRead (requests ++ r ∷ [])
reads_push_all [] r all is = (is, tt)
reads_push_all (q ∷ requests) r all is = (all.0, reads_push_all requests r all.1 is)

reads_one : (r : Request) → EndsInReads (r ∷ [])
reads_one (Read at len) = tt
reads_one (Raise at len) = tt
reads_one (Await count) = tt
reads_one After = tt

reads_push : (requests : List Request) (r : Request) → EndsInReads requests → (list_any is_after requests ≡ false) ⊎ IsRead r → EndsInReads (requests ++ r ∷ [])
reads_push [] r ends may = reads_one r
reads_push (Read at len ∷ requests) r ends may = reads_push requests r ends may
reads_push (Raise at len ∷ requests) r ends may = reads_push requests r ends may
reads_push (Await count ∷ requests) r ends may = reads_push requests r ends may
reads_push (After ∷ requests) r ends may = elim may [
  | inl none ↦ absurd (cc none)
  | inr read ↦ reads_push_all requests r ends read
]

reads_before : (before : List Request) (r : Request) (more : List Request) → EndsInReads (before ++ r ∷ more) → EndsInReads before
reads_before [] r more ends = tt
reads_before (Read at len ∷ before) r more ends = reads_before before r more ends
reads_before (Raise at len ∷ before) r more ends = reads_before before r more ends
reads_before (Await count ∷ before) r more ends = reads_before before r more ends
reads_before (After ∷ before) r more ends = (halves IsRead before r more ends).before

reads_at : (before : List Request) (r : Request) (more : List Request) → EndsInReads (before ++ r ∷ more) → (list_any is_after before ≡ false) ⊎ IsRead r
reads_at [] r more ends = inl refl
reads_at (Read at len ∷ before) r more ends = reads_at before r more ends
reads_at (Raise at len ∷ before) r more ends = reads_at before r more ends
reads_at (Await count ∷ before) r more ends = reads_at before r more ends
reads_at (After ∷ before) r more ends = inr (halves IsRead before r more ends).at

-- which request may stand behind those of the last session
may_of : (earlier : List (List Request)) (before : List Request) (r : Request) → (list_any is_after before ≡ false) ⊎ IsRead r → MayStand (earlier ++ before ∷ []) (form_of (Ask r))
may_of earlier before (Read at len) may = (before, (earlier, refl))
may_of earlier before (Raise at len) may = elim may [
  | inl none ↦ (before, (earlier, refl), none)
  | inr read ↦ absurd read
]
may_of earlier before (Await count) may = elim may [
  | inl none ↦ (before, (earlier, refl), none)
  | inr read ↦ absurd read
]
may_of earlier before After may = elim may [
  | inl none ↦ (before, (earlier, refl), none)
  | inr read ↦ absurd read
]

no_after : (sessions earlier : List (List Request)) (requests : List Request) → sessions ≡ earlier ++ requests ∷ []
    → (others : List Request) × EndsWith sessions others × (list_any is_after others ≡ false) → list_any is_after requests ≡ false
no_after sessions earlier requests is (others, (front, are), none) =
    let same : others ≡ requests = (same_push front earlier others requests (sym are ∙ is)).1 in
    ap (list_any is_after) (sym same) ∙ none

of_may : (sessions earlier : List (List Request)) (requests : List Request) (r : Request) → sessions ≡ earlier ++ requests ∷ [] → MayStand sessions (form_of (Ask r))
    → (list_any is_after requests ≡ false) ⊎ IsRead r
of_may sessions earlier requests (Read at len) is may = inr tt
of_may sessions earlier requests (Raise at len) is may = inl (no_after sessions earlier requests is may)
of_may sessions earlier requests (Await count) is may = inl (no_after sessions earlier requests is may)
of_may sessions earlier requests After is may = inl (no_after sessions earlier requests is may)

at_most : (m n : ℕ) → ¬ (n < m) → m ≤ n
at_most m n none = elim (leb_tells m n) [
  | inl x ↦ x.1
  | inr y ↦ absurd (none y.1)
]

below : (m n : ℕ) → ¬ (n ≤ m) → m < n
below m n none = elim (leb_tells n m) [
  | inl x ↦ absurd (none x.1)
  | inr y ↦ y.1
]

-- a request that is neither too long nor past the end
request_of : (size : ℕ) (r : Request) → ¬ (IsTooLong (Ask r)) → ¬ (IsPastEnd size (Ask r)) → IsRequest size r
request_of size (Read at len) short inside = (at_most len MAX_READ short, at_most (at + len) size inside)
request_of size (Raise at len) short inside = at_most (at + len) size inside
request_of size (Await count) short inside = tt
request_of size After short inside = tt

not_long : (size : ℕ) (r : Request) → IsRequest size r → ¬ (IsTooLong (Ask r))
not_long size (Read at len) is long = absurd (omega (arith, is.0, long))
not_long size (Raise at len) is long = long
not_long size (Await count) is long = long
not_long size After is long = long

not_past : (size : ℕ) (r : Request) → IsRequest size r → ¬ (IsPastEnd size (Ask r))
not_past size (Read at len) is past = absurd (omega (arith, is.1, past))
not_past size (Raise at len) is past = absurd (omega (arith, is, past))
not_past size (Await count) is past = past
not_past size After is past = past

-- what a line adds to a script, where it breaks no rule, is a script
pub adds_script : (size : ℕ) (sessions : List (List Request)) (line : List ℕ) (said : Said) (more : List (List Request))
    → IsScript size sessions → IsTaken size sessions line said → Adds sessions said more → IsScript size more
adds_script size sessions line Begin more script taken is =
    let empty : IsSession size [] = record { few = omega arith; each = All-nil (IsRequest size); after = tt } in
    subst (IsScript size) (sym is) (record {
      few = omega (arith, below (length sessions) MAX_SESSIONS taken.room, length-append sessions ([] ∷ []));
      each = All-push (IsSession size) sessions [] script.each empty;
    })
adds_script size sessions line (Ask r) more script taken (earlier, requests, was, is) =
    let all : All (IsSession size) (earlier ++ requests ∷ []) = subst (All (IsSession size)) was script.each in
    let session = all_at (IsSession size) earlier requests [] all in
    let room : length requests < MAX_REQUESTS = below (length requests) MAX_REQUESTS (λ full. taken.room (requests, (earlier, was), full)) in
    let longer : IsSession size (requests ++ r ∷ []) = record {
      few = omega (arith, room, length-append requests (r ∷ []));
      each = All-push (IsRequest size) requests r session.each (request_of size r taken.short taken.inside);
      after = reads_push requests r session.after (of_may sessions earlier requests r was taken.there.1);
    } in
    subst (IsScript size) (sym is) (record {
      few = omega (arith, script.few, ap length was, length-append earlier (requests ∷ []), length-append earlier ((requests ++ r ∷ []) ∷ []));
      each = All-push (IsSession size) earlier (requests ++ r ∷ []) (all_before (IsSession size) earlier requests [] all) longer;
    })

-- sessions that say the same are the same
split_same : (p q : List Request) (ps qs : List (List Request)) → map Ask p ++ said_by ps ≡ map Ask q ++ said_by qs → (p ≡ q) × (said_by ps ≡ said_by qs)
split_same [] [] ps qs is = (refl, is)
split_same [] (r ∷ q) [] qs is = absurd (omega (arith, ap length is))
split_same [] (r ∷ q) (e ∷ ps) qs is = let first : Begin ≡ Ask r = cc is in absurd (cc first)
split_same (r ∷ p) [] ps [] is = absurd (omega (arith, ap length is))
split_same (r ∷ p) [] ps (e ∷ qs) is = let first : Ask r ≡ Begin = cc is in absurd (cc first)
split_same (r ∷ p) (t ∷ q) ps qs is =
    let first : r ≡ t = cc is in
    let others : map Ask p ++ said_by ps ≡ map Ask q ++ said_by qs = cc is in
    let rest = split_same p q ps qs others in
    (λ i. first i ∷ rest.0 i, rest.1)

pub same_sessions : (ps qs : List (List Request)) → said_by ps ≡ said_by qs → ps ≡ qs
same_sessions [] [] is = refl
same_sessions [] (q ∷ qs) is = absurd (omega (arith, ap length is))
same_sessions (p ∷ ps) [] is = absurd (omega (arith, ap length is))
same_sessions (p ∷ ps) (q ∷ qs) is =
    let others : map Ask p ++ said_by ps ≡ map Ask q ++ said_by qs = cc is in
    let rest = split_same p q ps qs others in
    let more : ps ≡ qs = same_sessions ps qs rest.1 in
    λ i. rest.0 i ∷ more i

-- where what sessions say is cut: at the beginning of a session, or at a request
record AtBegin (sessions : List (List Request)) (front : List Said) (s : Said) : Type 0 where
  earlier : List (List Request)
  requests : List Request
  others : List (List Request)
  are : sessions ≡ earlier ++ requests ∷ others
  front_is : front ≡ said_by earlier
  is : s ≡ Begin

record AtRequest (sessions : List (List Request)) (front : List Said) (s : Said) : Type 0 where
  earlier : List (List Request)
  before : List Request
  request : Request
  more : List Request
  others : List (List Request)
  are : sessions ≡ earlier ++ (before ++ request ∷ more) ∷ others
  front_is : front ≡ said_by (earlier ++ before ∷ [])
  is : s ≡ Ask request

record Within (q : List Request) (front : List Said) (s : Said) : Type 0 where
  before : List Request
  request : Request
  more : List Request
  are : q ≡ before ++ request ∷ more
  front_is : front ≡ map Ask before
  is : s ≡ Ask request

record Beyond (q : List Request) (tail front : List Said) (s : Said) (back : List Said) : Type 0 where
  rest : List Said
  front_is : front ≡ map Ask q ++ rest
  tail_is : tail ≡ rest ++ s ∷ back

cut_requests : (q : List Request) (tail front : List Said) (s : Said) (back : List Said) → map Ask q ++ tail ≡ front ++ s ∷ back → Within q front s ⊎ Beyond q tail front s back
cut_requests [] tail front s back is = inr (record { rest = front; front_is = refl; tail_is = is })
cut_requests (r ∷ q) tail [] s back is = let first : Ask r ≡ s = cc is in inl (record { before = []; request = r; more = q; are = refl; front_is = refl; is = sym first })
cut_requests (r ∷ q) tail (x ∷ front) s back is =
    let first : Ask r ≡ x = cc is in
    let others : map Ask q ++ tail ≡ front ++ s ∷ back = cc is in
    elim (cut_requests q tail front s back others) [
      | inl w ↦ inl (record {
        before = r ∷ w.before;
        request = w.request;
        more = w.more;
        are = ap (λ v. r ∷ v) w.are;
        front_is = λ i. sym first i ∷ w.front_is i;
        is = w.is;
      })
      | inr w ↦ inr (record { rest = w.rest; front_is = λ i. sym first i ∷ w.front_is i; tail_is = w.tail_is })
    ]

cut_sessions : (sessions : List (List Request)) (front : List Said) (s : Said) (back : List Said) → said_by sessions ≡ front ++ s ∷ back → AtBegin sessions front s ⊎ AtRequest sessions front s
cut_sessions [] [] s back is = absurd (omega (arith, ap length is))
cut_sessions [] (x ∷ front) s back is = absurd (omega (arith, ap length is))
cut_sessions (q ∷ sessions) [] s back is =
    let first : Begin ≡ s = cc is in
    inl (record { earlier = []; requests = q; others = sessions; are = refl; front_is = refl; is = sym first })
cut_sessions (q ∷ sessions) (x ∷ front) s back is =
    let first : Begin ≡ x = cc is in
    let others : map Ask q ++ said_by sessions ≡ front ++ s ∷ back = cc is in
    elim (cut_requests q (said_by sessions) front s back others) [
      | inl w ↦ inr (record {
        earlier = [];
        before = w.before;
        request = w.request;
        more = w.more;
        others = sessions;
        are = ap (λ v. v ∷ sessions) w.are;
        front_is = λ i. sym first i ∷ (w.front_is ∙ sym (append-nil (map Ask w.before))) i;
        is = w.is;
      })
      | inr w ↦ elim (cut_sessions sessions w.rest s back w.tail_is) [
        | inl c ↦ inl (record {
          earlier = q ∷ c.earlier;
          requests = c.requests;
          others = c.others;
          are = ap (λ v. q ∷ v) c.are;
          front_is = λ i. sym first i ∷ (w.front_is ∙ ap (λ v. map Ask q ++ v) c.front_is) i;
          is = c.is;
        })
        | inr c ↦ inr (record {
          earlier = q ∷ c.earlier;
          before = c.before;
          request = c.request;
          more = c.more;
          others = c.others;
          are = ap (λ v. q ∷ v) c.are;
          front_is = λ i. sym first i ∷ (w.front_is ∙ ap (λ v. map Ask q ++ v) c.front_is) i;
          is = c.is;
        })
      ]
    ]

-- what is said in a script at some place, behind a script of what was said before
pub record Stands (size : ℕ) (front : List Said) (s : Said) : Type 0 where
  pub earlier : List (List Request)
  pub front_is : front ≡ said_by earlier
  pub script : IsScript size earlier
  pub may : MayStand earlier (form_of s)
  pub room : ¬ (IsFull earlier s)
  pub short : ¬ (IsTooLong s)
  pub inside : ¬ (IsPastEnd size s)

at_begin : (size : ℕ) (sessions : List (List Request)) (front : List Said) (s : Said) → IsScript size sessions → AtBegin sessions front s → Stands size front Begin
at_begin size sessions front s script c =
    let all : All (IsSession size) (c.earlier ++ c.requests ∷ c.others) = subst (All (IsSession size)) c.are script.each in
    let fewer : length c.earlier < MAX_SESSIONS = omega (arith, script.few, ap length c.are, length-append c.earlier (c.requests ∷ c.others)) in
    record {
      earlier = c.earlier;
      front_is = c.front_is;
      script = record { few = omega (arith, fewer); each = all_before (IsSession size) c.earlier c.requests c.others all };
      may = tt;
      room = λ full. absurd (omega (arith, fewer, full));
      short = λ long. long;
      inside = λ past. past;
    }

at_request : (size : ℕ) (sessions : List (List Request)) (front : List Said) (s : Said) → IsScript size sessions → (c : AtRequest sessions front s) → Stands size front (Ask c.request)
at_request size sessions front s script c =
    let whole = c.before ++ c.request ∷ c.more in
    let all : All (IsSession size) (c.earlier ++ whole ∷ c.others) = subst (All (IsSession size)) c.are script.each in
    let session = all_at (IsSession size) c.earlier whole c.others all in
    let request = all_at (IsRequest size) c.before c.request c.more session.each in
    let fewer : length c.before < MAX_REQUESTS = omega (arith, session.few, length-append c.before (c.request ∷ c.more)) in
    let shorter : IsSession size c.before = record {
      few = omega (arith, fewer);
      each = all_before (IsRequest size) c.before c.request c.more session.each;
      after = reads_before c.before c.request c.more session.after;
    } in
    record {
      earlier = c.earlier ++ c.before ∷ [];
      front_is = c.front_is;
      script = record {
        few = omega (arith, script.few, ap length c.are, length-append c.earlier (whole ∷ c.others), length-append c.earlier (c.before ∷ []));
        each = All-push (IsSession size) c.earlier c.before (all_before (IsSession size) c.earlier whole c.others all) shorter;
      };
      may = may_of c.earlier c.before c.request (reads_at c.before c.request c.more session.after);
      room = λ full.
          let same : full.0 ≡ c.before = (same_push full.1.0 c.earlier full.0 c.before (sym full.1.1)).1 in
          absurd (omega (arith, fewer, ap length same, full.2));
      short = not_long size c.request request;
      inside = not_past size c.request request;
    }

pub stands : (size : ℕ) (sessions : List (List Request)) (front : List Said) (s : Said) (back : List Said) → said_by sessions ≡ front ++ s ∷ back → IsScript size sessions → Stands size front s
stands size sessions front s back is script = elim (cut_sessions sessions front s back is) [
  | inl c ↦ subst (Stands size front) (sym c.is) (at_begin size sessions front s script c)
  | inr c ↦ subst (Stands size front) (sym c.is) (at_request size sessions front s script c)
]

-- there is a last session where there is one
pub read_may : (sessions : List (List Request)) (f : Form) (empty : Bool) → f ≡ form.Read → empty ≡ (length sessions == 0)
    → (IsTrue (not empty) → MayStand sessions f) × (MayStand sessions f → IsTrue (not empty))
read_may [] f empty read is = (
  (λ some. absurd (cc (subst (λ e. IsTrue (not e)) is some))),
  (λ may. let m = subst (MayStand []) read may in absurd (omega (arith, ap length m.1.1, length-append m.1.0 (m.0 ∷ [])))),
)
read_may (s ∷ sessions) f empty read is = (
  (λ some. subst (MayStand (s ∷ sessions)) (sym read) (get_or (s ∷ sessions) (length sessions) s, (take (length sessions) (s ∷ sessions), last_at (s ∷ sessions) (length sessions) s (omega arith)))),
  (λ may.
      let some : (length (s ∷ sessions) == 0) ≡ false = grind (arith, nat_tests) in
      subst (λ e. IsTrue (not e)) (sym (is ∙ some)) refl),
)

-- the last session gets a request more
pub adds_last : (sessions : List (List Request)) (n : ℕ) (said : Said) (requests pushed : List Request) (r : Request) → said ≡ Ask r → length sessions ≡ n + 1
    → requests ≡ get_or sessions n requests → pushed ≡ requests ++ r ∷ [] → Adds sessions said (set sessions n pushed)
adds_last sessions n said requests pushed r asked long at is =
    let was : sessions ≡ take n sessions ++ requests ∷ [] = last_at sessions n requests long ∙ ap (λ v. take n sessions ++ v ∷ []) (sym at) in
    let more : set sessions n pushed ≡ take n sessions ++ (requests ++ r ∷ []) ∷ [] = last_set sessions n pushed long ∙ ap (λ v. take n sessions ++ v ∷ []) is in
    subst (λ s. Adds sessions s (set sessions n pushed)) (sym asked) (take n sessions, requests, was, more)
