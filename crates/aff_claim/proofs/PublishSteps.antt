-- The steps by which the book's seat publishes and sweeps keep the rule, and tell what they say.
use Rattle.std.proofs.Common.{◌≡◌, ◌≢◌, ◌↔◌, ℕ, ◌+◌, ◌*◌, ◌<◌, ◌≤◌, ◌==◌, true, false, true≢false, List, [], ◌∷◌, ◌++◌, length, get_or, refl, sym, ap, ◌∙◌, subst, ⊎_elim, arith, length-set, eq-eqb, ne_eqb, Contains}
use mathlib.Core.Option.{none, some}
use mathlib.Core.Logic.{dite}
use native.Mathlib.Decide.{ℕ_discrete}
use lib.ListN.{get_elem?}
use prog.Atomic.{either}
use Rattle.std.proofs.lemmas.List.Elements.{Contains-push_cases, Contains-push, Contains-append_left}
use Rattle.atomic_table.specs.Table.{State, Me, step, keeps, stepped, Allows}
use Rattle.aff_claim.specs.declared.view.BookView.{BookView}
use Rattle.aff_claim.specs.declared.view.Limits.{Limits}
use Rattle.aff_claim.specs.declared.view.View.{View}
use Rattle.aff_claim.specs.declared.word.Word.{Word}
use Rattle.aff_claim.specs.declared.word.Word.TheVariants.{Free, Claimed, Published}
use Rattle.aff_claim.specs.Rule.{AreClaims, IsSeat, IsBook, IsPass, MayStand, IsOnce}
use Rattle.aff_claim.specs.Steps.{book_looked, published, published_if, swept, TellsBook, publishes, sweeps}
use Rattle.aff_claim.specs.Words.{Names, IsPublished, number_of, word_at, drawn_count}
use Rattle.aff_claim.proofs.BookSteps.{unmoved, tells, holds_more}
use Rattle.aff_claim.proofs.Kept.{pass_kept, booked_kept, spare_kept, after, here, drawn_same, each}
use Rattle.aff_claim.proofs.ListLaws.{seats_stay, once_push}
use Rattle.aff_claim.proofs.PassSteps.{told_at}
use Rattle.aff_claim.proofs.WordLaws.{word_is}

module _ {S : Type 0} (limits : Limits) (slots id : ℕ) (me : Me S View) (is_book : me.0.is_book ≡ true) where
  abbrev Rule : State S View → Type 0
  Rule = AreClaims limits

  abbrev v : View
  v = me.0

  -- an exchange that changes the claim word of e to w, if each other seat keeps what it knows
  changed : (s : State S View) (r : Rule s) (e : ℕ) (w : Word) (q : BookView) (room : e + 1 < length s.words) → get_elem? s.views id ≡ some v
      → MayStand limits.workers (drawn_count s.words) w
      → (IsBook limits (drawn_count s.words) (word_at s.words) r.owner id v.book → IsBook limits (drawn_count (after s.words e w room)) (word_at (after s.words e w room)) r.owner id q)
      → ((j : ℕ) (d : View) → d.is_book ≡ false → r.owner d.pass.number ≡ j → IsPass limits (drawn_count s.words) (word_at s.words) d.pass → IsPass limits (drawn_count (after s.words e w room)) (word_at (after s.words e w room)) d.pass)
      → Rule (stepped s (e + 1) (number_of w) id me.1 (record v { book = q }) keeps)
  changed s r e w q room at may mine others =
      let words = s.words in
      let was = r.seats id v at in
      let own = was.a_book is_book in record {
        desk = r.desk;
        owner = r.owner;
        width = length-set words (e + 1) (number_of w) ∙ r.width;
        words = λ f l. subst (λ c. MayStand limits.workers c (word_at (after words e w room) f)) (sym (drawn_same words e w room))
            (each words e w room (λ g x. g < limits.extents → MayStand limits.workers (drawn_count words) x) (λ g _ h. r.words g h) (λ _. may) f l);
        seats = seats_stay (IsSeat limits (drawn_count (after words e w room)) (word_at (after words e w room)) r.owner r.desk) s.views id (record v { book = q })
            (record {
              extents = was.extents;
              workers = was.workers;
              a_book = λ _. (own.0, mine own.1);
              a_pass = λ h. absurd (true≢false (sym is_book ∙ h));
            })
            (λ j d other there. let know = r.seats j d there in record {
              extents = know.extents;
              workers = know.workers;
              a_book = λ h. absurd (other ((know.a_book h).0 ∙ sym own.0));
              a_pass = λ h. let old = know.a_pass h in (old.0, others j d h old.0 old.1);
            });
      }

  -- a claim becomes a publication
  published_now : (s : State S View) (r : Rule s) (e k : ℕ) → e < limits.extents → get_elem? s.views id ≡ some v → word_at s.words e ≡ Claimed k
      → Rule (stepped s (e + 1) (2 * k + 2) id me.1 (record v { book = published_if true v.book e k }) keeps)
  published_now s r e k inside at is =
      let w : Word = Published k in
      let words = s.words in
      let wide = r.width in
      let room : e + 1 < length words = omega arith in
      let grows : drawn_count words ≤ drawn_count (after words e w room) = (let h = drawn_same words e w room in omega arith) in
      let named : (m : ℕ) → Names (word_at words e) m ↔ Names w m = (λ m. subst (λ x. Names x m ↔ Names w m) (sym is) (λ h. h, λ h. h)) in
      changed s r e w (published_if true v.book e k) room at (λ m h. r.words e inside m ((named m).1 h))
      (λ ok. published_book words e k room inside is r.owner ok)
      (λ j d _ _ ok. pass_kept limits (word_at words) (word_at (after words e w room)) (drawn_count words) (drawn_count (after words e w room)) d.pass grows
      (λ _ f l. each words e w room (λ g x. Names (word_at words g) d.pass.number ↔ Names x d.pass.number) (λ g _. (λ h. h, λ h. h)) (named d.pass.number) f)
      (λ f l. each words e w room (λ g x. word_at words g ≢ Free → x ≢ Free) (λ g _ h. h) (λ _ z. let clash : Published k ≡ Free = z in cc) f) ok)
    where
      published_book : (words : List ℕ) (e k : ℕ) (room : e + 1 < length words) → e < limits.extents → word_at words e ≡ Claimed k → (owner : ℕ → ℕ) → IsBook limits (drawn_count words) (word_at words) owner id v.book
          → IsBook limits (drawn_count (after words e (Published k) room)) (word_at (after words e (Published k) room)) owner id (published_if true v.book e k)
      published_book words e k room inside is owner ok =
          let w : Word = Published k in
          let now = after words e w room in
          let count = drawn_same words e w room in
          let grows : drawn_count words ≤ drawn_count now = omega arith in
          let b = v.book in
          let named : (m : ℕ) → Names (word_at words e) m ↔ Names w m = (λ m. subst (λ x. Names x m ↔ Names w m) (sym is) (λ h. h, λ h. h)) in record {
            made = count ∙ ok.made;
            spare = λ m drawn. spare_kept limits (word_at words) (word_at now) (drawn_count words) (drawn_count now) owner id m grows
                (λ worker f l. each words e w room (λ g x. Names x m → Names (word_at words g) m) (λ g _ h. h) (named m).1 f) (ok.spare m drawn);
            booked = record {
              out = λ f. (
                (λ c. ⊎_elim
                    (λ h. let was = (ok.booked.out f).0 h in (was.0, each words e w room (λ g x. IsPublished (word_at words g) → IsPublished x) (λ g _ z. z) (λ _. tt) f was.1))
                    (λ (same : e ≡ f). subst (λ g. (g < limits.extents) × IsPublished (word_at now g)) same (inside, subst IsPublished (sym (here words e w room)) tt))
                    (Contains-push_cases b.out e f c)),
                (λ h. each words e w room (λ g x. g < limits.extents → IsPublished x → Contains (b.out ++ e ∷ []) g)
                    (λ g _ l z. Contains-append_left b.out (e ∷ []) g ((ok.booked.out g).1 (l, z))) (λ _ _. Contains-push b.out e) f h.0 h.1),
              );
              once = once_push b.out e ok.booked.once (λ c. subst IsPublished is ((ok.booked.out e).0 c).1);
              held = λ f m c. let was = ok.booked.held f m c in (was.0, each words e w room (λ g x. Names (word_at words g) m → Names x m) (λ g _ h. h) (named m).0 f was.1);
            };
          }

  -- the exchange finds another word
  unpublished : (s : State S View) (r : Rule s) (e k : ℕ) (q : BookView) → q.made ≡ v.book.made → q.drawn ≡ v.book.drawn → q.out ≡ v.book.out → q.held ≡ v.book.held → get_elem? s.views id ≡ some v
      → get_or s.words (e + 1) 0 ≢ 2 * k + 1
      → Rule (stepped s (e + 1) (either (get_or s.words (e + 1) 0 == 2 * k + 1) (2 * k + 2) (get_or s.words (e + 1) 0)) id me.1 (record v { book = q }) keeps)
  unpublished s r e k q made drawn out held at ne =
      subst (λ t. Rule (stepped s (e + 1) (either t (2 * k + 2) (get_or s.words (e + 1) 0)) id me.1 (record v { book = q }) keeps)) (sym (ne_eqb (get_or s.words (e + 1) 0) (2 * k + 1) ne))
      (unmoved limits slots id me is_book s r (e + 1) q at (λ ok. record {
        made = ok.made ∙ sym made;
        spare = λ m is. ok.spare m (sym drawn ∙ is);
        booked = record {
          out = subst (λ l. (f : ℕ) → Contains l f ↔ ((f < limits.extents) × IsPublished (word_at s.words f))) (sym out) ok.booked.out;
          once = subst IsOnce (sym out) ok.booked.once;
          held = subst (λ l. (f m : ℕ) → Contains l (f, m) → (f < limits.extents) × Names (word_at s.words f) m) (sym held) ok.booked.held;
        };
      }))

  -- the exchange, by the word that it finds
  exchanged : (s : State S View) (r : Rule s) (e k : ℕ) → e < limits.extents → get_elem? s.views id ≡ some v → (w : Word) → word_at s.words e ≡ w
      → Rule (stepped s (e + 1) (either (get_or s.words (e + 1) 0 == 2 * k + 1) (2 * k + 2) (get_or s.words (e + 1) 0)) id me.1 (record v { book = published v.book e k w }) keeps)
  exchanged s r e k inside at Free is = unpublished s r e k (published v.book e k Free) refl refl refl refl at (let n = word_is (get_or s.words (e + 1) 0) Free is in omega arith)
  exchanged s r e k inside at (Published m) is = unpublished s r e k (published v.book e k (Published m)) refl refl refl refl at (let n = word_is (get_or s.words (e + 1) 0) (Published m) is in omega arith)
  exchanged s r e k inside at (Claimed m) is = dite (ℕ_discrete m k)
      (λ (same : m ≡ k).
      let n = word_is (get_or s.words (e + 1) 0) (Claimed m) is in
      let wins : get_or s.words (e + 1) 0 ≡ 2 * k + 1 = omega arith in
      subst (λ t. Rule (stepped s (e + 1) (either t (2 * k + 2) (get_or s.words (e + 1) 0)) id me.1 (record v { book = published_if (m == k) v.book e m }) keeps)) (sym (eq-eqb (get_or s.words (e + 1) 0) (2 * k + 1) wins))
      (subst (λ t. Rule (stepped s (e + 1) (2 * k + 2) id me.1 (record v { book = published_if t v.book e m }) keeps)) (sym (eq-eqb m k same))
      (subst (λ x. Rule (stepped s (e + 1) (2 * x + 2) id me.1 (record v { book = published_if true v.book e m }) keeps)) same (published_now s r e m inside at is))))
      (λ (other : m ≢ k).
      subst (λ t. Rule (stepped s (e + 1) (either (get_or s.words (e + 1) 0 == 2 * k + 1) (2 * k + 2) (get_or s.words (e + 1) 0)) id me.1 (record v { book = published_if t v.book e m }) keeps)) (sym (ne_eqb m k other))
      (unpublished s r e k (published_if false v.book e m) refl refl refl refl at (let n = word_is (get_or s.words (e + 1) 0) (Claimed m) is in omega arith)))

  pub publish_allows : (e k : ℕ) → e < limits.extents
      → Allows Rule slots id me (e + 1) (λ x. either (x == 2 * k + 1) (2 * k + 2) x) (publishes (step slots (e + 1) (2 * k + 1) (2 * k + 2) none) me)
  publish_allows e k inside s r homes at small =
      let w = word_at s.words e in (
        record v { book = published v.book e k w },
        keeps,
        tt,
        exchanged s r e k inside at w refl,
        told_at e (λ f. (m : ℕ) → 2 * k + 1 ≡ 2 * m + 1 → ((record v { book = published v.book e k w }, me.1) ≡ (record v { book = published v.book f m w }, me.1)) × TellsBook v f w)
            (λ m is. let same : k ≡ m = omega arith in (ap (λ x. (record v { book = published v.book e x w }, me.1)) same, tells limits slots id me is_book s r e inside at)),
      )

  -- the sweep claims a free word
  swept_now : (s : State S View) (r : Rule s) (e : ℕ) → e < limits.extents → get_elem? s.views id ≡ some v → word_at s.words e ≡ Free
      → Rule (stepped s (e + 1) (2 * limits.workers + 1) id me.1 (record v { book = swept v.book e limits.workers Free }) keeps)
  swept_now s r e inside at free =
      let w : Word = Claimed limits.workers in
      let words = s.words in
      let wide = r.width in
      let room : e + 1 < length words = omega arith in
      let count = drawn_same words e w room in
      let grows : drawn_count words ≤ drawn_count (after words e w room) = omega arith in
      let unnamed : (m : ℕ) → Names (word_at words e) m → ⊥ = (λ m named. subst (λ x. Names x m) free named) in
      let no_worker : (m : ℕ) → m < limits.workers → Names w m → ⊥ = (λ m low (named : limits.workers ≡ m). absurd (omega arith)) in
      changed s r e w (swept v.book e limits.workers Free) room at (λ m (named : limits.workers ≡ m). (omega arith, λ low. absurd (omega arith)))
      (λ ok.
      let kept = booked_kept limits (word_at words) (word_at (after words e w room)) v.book
      (λ f l. each words e w room (λ g x. IsPublished (word_at words g) ↔ IsPublished x) (λ g _. (λ h. h, λ h. h)) (λ h. subst IsPublished free h, λ h. absurd h) f)
      (λ f m l. each words e w room (λ g x. Names (word_at words g) m → Names x m) (λ g _ named. named) (λ named. absurd (unnamed m named)) f) ok.booked in record {
        made = count ∙ ok.made;
        spare = λ m drawn. spare_kept limits (word_at words) (word_at (after words e w room)) (drawn_count words) (drawn_count (after words e w room)) r.owner id m grows
            (λ worker f l. each words e w room (λ g x. Names x m → Names (word_at words g) m) (λ g _ named. named) (λ named. absurd (no_worker m worker named)) f) (ok.spare m drawn);
        booked = record {
          out = kept.out;
          once = kept.once;
          held = λ f m c. ⊎_elim (λ h. kept.held f m h)
              (λ (same : (e, limits.workers) ≡ (f, m)). subst (λ (z : ℕ × ℕ). (z.0 < limits.extents) × Names (word_at (after words e w room) z.0) z.1) same (inside, subst (λ x. Names x limits.workers) (sym (here words e w room)) refl))
              (Contains-push_cases v.book.held (e, limits.workers) (f, m) c);
        };
      })
      (λ j d _ _ ok. pass_kept limits (word_at words) (word_at (after words e w room)) (drawn_count words) (drawn_count (after words e w room)) d.pass grows
      (λ worker f l. each words e w room (λ g x. Names (word_at words g) d.pass.number ↔ Names x d.pass.number) (λ g _. (λ h. h, λ h. h))
      (λ named. absurd (unnamed d.pass.number named), λ named. absurd (no_worker d.pass.number worker named)) f)
      (λ f l. each words e w room (λ g x. word_at words g ≢ Free → x ≢ Free) (λ g _ h. h) (λ _ z. let clash : Claimed limits.workers ≡ Free = z in cc) f) ok)

  -- the sweep finds the extent taken
  unswept : (s : State S View) (r : Rule s) (e : ℕ) → e < limits.extents → get_elem? s.views id ≡ some v → (w : Word) → word_at s.words e ≡ w → get_or s.words (e + 1) 0 ≢ 0
      → Rule (stepped s (e + 1) (either (get_or s.words (e + 1) 0 == 0) (2 * limits.workers + 1) (get_or s.words (e + 1) 0)) id me.1 (record v { book = book_looked v.book e w }) keeps)
  unswept s r e inside at w is ne =
      subst (λ t. Rule (stepped s (e + 1) (either t (2 * limits.workers + 1) (get_or s.words (e + 1) 0)) id me.1 (record v { book = book_looked v.book e w }) keeps)) (sym (ne_eqb (get_or s.words (e + 1) 0) 0 ne))
      (unmoved limits slots id me is_book s r (e + 1) (book_looked v.book e w) at (λ ok. record { made = ok.made; spare = ok.spare; booked = holds_more limits.extents (word_at s.words) v.book e w inside is ok.booked }))

  sweep_by : (s : State S View) (r : Rule s) (e : ℕ) → e < limits.extents → get_elem? s.views id ≡ some v → (w : Word) → word_at s.words e ≡ w
      → Rule (stepped s (e + 1) (either (get_or s.words (e + 1) 0 == 0) (2 * limits.workers + 1) (get_or s.words (e + 1) 0)) id me.1 (record v { book = swept v.book e limits.workers w }) keeps)
  sweep_by s r e inside at Free is =
      subst (λ t. Rule (stepped s (e + 1) (either t (2 * limits.workers + 1) (get_or s.words (e + 1) 0)) id me.1 (record v { book = swept v.book e limits.workers Free }) keeps))
      (sym (eq-eqb (get_or s.words (e + 1) 0) 0 (word_is (get_or s.words (e + 1) 0) Free is))) (swept_now s r e inside at is)
  sweep_by s r e inside at (Claimed m) is = unswept s r e inside at (Claimed m) is (let n = word_is (get_or s.words (e + 1) 0) (Claimed m) is in omega arith)
  sweep_by s r e inside at (Published m) is = unswept s r e inside at (Published m) is (let n = word_is (get_or s.words (e + 1) 0) (Published m) is in omega arith)

  pub sweep_allows : (e : ℕ) → e < limits.extents
      → Allows Rule slots id me (e + 1) (λ x. either (x == 0) (2 * limits.workers + 1) x) (sweeps (step slots (e + 1) 0 (2 * limits.workers + 1) none) me)
  sweep_allows e inside s r homes at small =
      let w = word_at s.words e in
      let workers : v.workers ≡ limits.workers = (r.seats id v at).workers in (
        record v { book = swept v.book e v.workers w },
        keeps,
        tt,
        subst (λ n. Rule (stepped s (e + 1) (either (get_or s.words (e + 1) 0 == 0) (2 * limits.workers + 1) (get_or s.words (e + 1) 0)) id me.1 (record v { book = swept v.book e n w }) keeps)) (sym workers) (sweep_by s r e inside at w refl),
        told_at e (λ f. (((record v { book = swept v.book e v.workers w }, me.1) ≡ (record v { book = swept v.book f v.workers w }, me.1)) × TellsBook v f w)) (refl, tells limits slots id me is_book s r e inside at),
      )

-- what the book's view is after an exchange that found the claim, and after another
pub published_claim : (b : BookView) (e k : ℕ) (w : Word) (now : BookView) → w ≡ Claimed k → now ≡ published b e k w → now ≡ record b { out = b.out ++ e ∷ []; found = b.found ++ (e, Claimed k) ∷ [] }
published_claim b e k w now is view = view ∙ (ap (published b e k) is ∙ ap (λ t. published_if t b e k) (eq-eqb k k refl))

pub published_other : (b : BookView) (e k : ℕ) (w : Word) (now : BookView) → w ≢ Claimed k → now ≡ published b e k w → now ≡ record b { found = b.found ++ (e, w) ∷ [] }
published_other b e k Free now other view = view
published_other b e k (Published m) now other view = view
published_other b e k (Claimed m) now other view = view ∙ ap (λ t. published_if t b e m) (ne_eqb m k (λ same. other (ap Claimed same)))

-- a word that names a number and is not published is its claim
pub is_claim : (w : Word) (k : ℕ) → Names w k → ¬ IsPublished w → w ≡ Claimed k
is_claim Free k named out = absurd named
is_claim (Claimed m) k named out = ap Claimed named
is_claim (Published m) k named out = absurd (out tt)
