-- The steps of the book's seat keep the rule, and tell what they say.
use Rattle.std.proofs.Common.{◌≡◌, ◌≢◌, ℕ, ◌+◌, ◌-◌, ◌%◌, ◌^◌, ◌<◌, ◌≤◌, ◌==◌, true, cond, true≢false, List, [], ◌∷◌, ◌++◌, length, get_or, set, refl, sym, ap, ◌∙◌, subst, ⊎_elim, arith, length-set, get_or-set_same, eq-eqb, ne_eqb, Some}
use mathlib.Core.Option.{none, some}
use lib.ListN.{get_elem?}
use lib.Seq.{set-get_or}
use Rattle.std.proofs.lemmas.List.Elements.{Contains-push_cases}
use Rattle.atomic_table.specs.Table.{State, Me, step, keeps, stepped, Allows, Splits}
use Rattle.aff_claim.specs.declared.view.BookView.{BookView}
use Rattle.aff_claim.specs.declared.view.Limits.{Limits}
use Rattle.aff_claim.specs.declared.view.View.{View}
use Rattle.aff_claim.specs.declared.word.Word.{Word}
use Rattle.aff_claim.specs.declared.word.Word.TheVariants.{Free, Claimed, Published}
use Rattle.aff_claim.specs.Rule.{AreClaims, IsSeat, IsBook, IsSpare, HasBooked}
use Rattle.aff_claim.specs.Steps.{drew, book_looked, TellsBook, registers, book_loads}
use Rattle.aff_claim.specs.Views.{given, newcomer, new_pass, last_drawn}
use Rattle.aff_claim.specs.Words.{Names, word_at, drawn_count}
use Rattle.aff_claim.proofs.Kept.{pass_kept, booked_kept, names_same, published_same, taken_same, words_same}
use Rattle.aff_claim.proofs.ListLaws.{none_in, once_none, seats_stay, at_push}
use Rattle.aff_claim.proofs.PassSteps.{told_at}

-- the numbers' owners, where k is given to a seat
abbrev owner_with : (ℕ → ℕ) → ℕ → ℕ → ℕ → ℕ
owner_with owner k seat z = cond (z == k) seat (owner z)

with_same : (owner : ℕ → ℕ) (k seat : ℕ) → owner_with owner k seat k ≡ seat
with_same owner k seat = ap (λ b. cond b seat (owner k)) (eq-eqb k k refl)

with_other : (owner : ℕ → ℕ) (k seat z : ℕ) → z ≢ k → owner_with owner k seat z ≡ owner z
with_other owner k seat z ne = ap (λ b. cond b seat (owner z)) (ne_eqb z k ne)

-- what the book holds, with a claim that it finds
pub holds_more : (extents : ℕ) (word : ℕ → Word) (b : BookView) (e : ℕ) (w : Word) → e < extents → word e ≡ w → HasBooked extents word b → HasBooked extents word (book_looked b e w)
holds_more extents word b e Free inside is ok = record { out = ok.out; once = ok.once; held = ok.held }
holds_more extents word b e (Published m) inside is ok = record { out = ok.out; once = ok.once; held = ok.held }
holds_more extents word b e (Claimed m) inside is ok = record {
  out = ok.out;
  once = ok.once;
  held = λ f k c. ⊎_elim (λ h. ok.held f k h)
      (λ (same : (e, m) ≡ (f, k)). subst (λ (z : ℕ × ℕ). (z.0 < extents) × Names (word z.0) z.1) same (inside, subst (λ x. Names x m) (sym is) refl))
      (Contains-push_cases b.held (e, m) (f, k) c);
}

module _ {S : Type 0} (limits : Limits) (slots id : ℕ) (me : Me S View) (is_book : me.0.is_book ≡ true) where
  abbrev Rule : State S View → Type 0
  Rule = AreClaims limits

  abbrev v : View
  v = me.0

  pub register_allows : v.book.made < 2 ^ 32 - 1 → Allows Rule slots id me 0 (λ x. (x + 1) % 2 ^ 64) (registers (step slots 0 1 0 none) me)
  register_allows room s r homes at small =
      let x = drawn_count s.words in
      let own = (r.seats id v at).a_book is_book in
      let is : x ≡ v.book.made = own.1.made in
      (record v { book = drew v.book x }, keeps, tt, drawn s r x refl at own.0 own.1 ((x + 1) % 2 ^ 64) (let h = room in omega arith), (refl, is))
    where
      drawn : (s : State S View) (r : Rule s) (x : ℕ) → drawn_count s.words ≡ x → get_elem? s.views id ≡ some v → id ≡ r.desk → IsBook limits (drawn_count s.words) (word_at s.words) r.owner id v.book
          → (y : ℕ) → y ≡ x + 1 → Rule (stepped s 0 y id me.1 (record v { book = drew v.book x }) keeps)
      drawn s r x counts at mine ok y grows =
          let words = s.words in
          let now = set words 0 y in
          let wide = r.width in
          let first : drawn_count now ≡ y = get_or-set_same words 0 y 0 (omega arith) in
          let same = words_same limits.extents words 0 y (λ e l h. omega arith) in
          let more : drawn_count words ≤ drawn_count now = omega arith in
          let owner = owner_with r.owner x id in
          let booked = booked_kept limits (word_at words) (word_at now) v.book (λ f l. published_same (word_at words f) (word_at now f) (same f l)) (λ f m l. (names_same (word_at words f) (word_at now f) (same f l) m).0) ok.booked in
          let was = r.seats id v at in record {
            desk = r.desk;
            owner = owner;
            width = length-set words 0 y ∙ wide;
            words = λ f l k named. let h = r.words f l k (subst (λ w. Names w k) (same f l) named) in (h.0, λ worker. let low = h.1 worker in omega arith);
            seats = seats_stay (IsSeat limits (drawn_count now) (word_at now) owner r.desk) s.views id (record v { book = drew v.book x })
                (record {
                  extents = was.extents;
                  workers = was.workers;
                  a_book = λ _. (
                    mine,
                    record {
                      made = first ∙ (grows ∙ ap (λ z. z + 1) (sym counts ∙ ok.made));
                      spare = λ k e. subst (λ z. IsSpare limits (drawn_count now) (word_at now) owner id z) (some_is k e) record {
                        number = omega arith;
                        owned = with_same r.owner x id;
                        unnamed = λ worker f l named. let h = r.words f l x (subst (λ w. Names w x) (same f l) named) in let low = h.1 worker in omega arith;
                      };
                      booked = record { out = booked.out; once = booked.once; held = booked.held };
                    },
                  );
                  a_pass = λ h. absurd (true≢false (sym is_book ∙ h));
                })
                (λ j d other there. let know = r.seats j d there in record {
                  extents = know.extents;
                  workers = know.workers;
                  a_book = λ h. absurd (other ((know.a_book h).0 ∙ sym mine));
                  a_pass = λ h. let was = know.a_pass h in (
                    with_other r.owner x id d.pass.number (λ e. let low = was.1.number in omega arith) ∙ was.0,
                    pass_kept limits (word_at words) (word_at now) (drawn_count words) (drawn_count now) d.pass more
                        (λ _ f l. names_same (word_at words f) (word_at now f) (same f l) d.pass.number) (λ f l. taken_same (word_at words f) (word_at now f) (same f l)) was.1,
                  );
                });
          }
        where
          some_is : (k : ℕ) → Some x ≡ Some k → x ≡ k
          some_is k e = cc

  -- a step that changes no word
  pub unmoved : (s : State S View) (r : Rule s) (i : ℕ) (q : BookView) → get_elem? s.views id ≡ some v
      → (IsBook limits (drawn_count s.words) (word_at s.words) r.owner id v.book → IsBook limits (drawn_count s.words) (word_at s.words) r.owner id q)
      → Rule (stepped s i (get_or s.words i 0) id me.1 (record v { book = q }) keeps)
  unmoved s r i q at more = subst (λ (ws : List ℕ). Rule record { words = ws; homes = s.homes; views = set s.views id (record v { book = q }) }) (sym (set-get_or s.words i 0)) record {
    desk = r.desk;
    owner = r.owner;
    width = r.width;
    words = r.words;
    seats = let was = r.seats id v at in let mine = was.a_book is_book in
        seats_stay (IsSeat limits (drawn_count s.words) (word_at s.words) r.owner r.desk) s.views id (record v { book = q })
        (record { extents = was.extents; workers = was.workers; a_book = λ _. (mine.0, more mine.1); a_pass = λ h. absurd (true≢false (sym is_book ∙ h)) })
        (λ j d _ there. r.seats j d there);
  }

  pub tells : (s : State S View) (r : Rule s) (e : ℕ) → e < limits.extents → get_elem? s.views id ≡ some v → TellsBook v e (word_at s.words e)
  tells s r e inside at =
      let was = r.seats id v at in
      let ok = (was.a_book is_book).1.booked in record {
        number = λ k named. let le = (r.words e inside k named).0 in let same = was.workers in omega arith;
        out = ((λ c. ((ok.out e).0 c).1), (λ h. (ok.out e).1 (inside, h)));
        held = λ k c. (ok.held e k c).1;
      }

  looked_kept : (s : State S View) (owner : ℕ → ℕ) (e : ℕ) (w : Word) → e < limits.extents → word_at s.words e ≡ w → IsBook limits (drawn_count s.words) (word_at s.words) owner id v.book
      → IsBook limits (drawn_count s.words) (word_at s.words) owner id (book_looked v.book e w)
  looked_kept s owner e w inside is ok = record { made = ok.made; spare = ok.spare; booked = holds_more limits.extents (word_at s.words) v.book e w inside is ok.booked }

  pub load_allows : (e : ℕ) → e < limits.extents → Allows Rule slots id me (e + 1) (λ x. x) (book_loads (step slots (e + 1) 0 0 none) me)
  load_allows e inside s r homes at small =
      let w = word_at s.words e in
      let q = book_looked v.book e w in (
        record v { book = q },
        keeps,
        tt,
        unmoved s r (e + 1) q at (λ ok. looked_kept s r.owner e w inside refl ok),
        told_at e (λ f. (((record v { book = q }, me.1) ≡ (record v { book = book_looked v.book f w }, me.1)) × TellsBook v f w)) (refl, tells s r e inside at),
      )

  -- the number drawn last goes to a new pass
  pub splits : (k : ℕ) → v.book.drawn ≡ Some k → Splits Rule id v (given v) (newcomer v)
  splits k has s r at =
      let own = (r.seats id v at).a_book is_book in
      let number : last_drawn v.book.drawn ≡ k = ap last_drawn has in
      subst (λ (z : ℕ). Rule record { words = s.words; homes = s.homes; views = set s.views id (given v) ++ (record (newcomer v) { pass = new_pass z }) ∷ [] }) (sym number)
      (dealt s r k at own.0 own.1 (own.1.spare k has))
    where
      dealt : (s : State S View) (r : Rule s) (k : ℕ) → get_elem? s.views id ≡ some v → id ≡ r.desk → IsBook limits (drawn_count s.words) (word_at s.words) r.owner id v.book
          → IsSpare limits (drawn_count s.words) (word_at s.words) r.owner id k
          → Rule record { words = s.words; homes = s.homes; views = set s.views id (given v) ++ (record (newcomer v) { pass = new_pass k }) ∷ [] }
      dealt s r k at mine ok spare =
          let last = length (set s.views id (given v)) in
          let owner = owner_with r.owner k last in
          let was = r.seats id v at in record {
            desk = r.desk;
            owner = owner;
            width = r.width;
            words = r.words;
            seats = λ j d there. ⊎_elim
                (λ h. seats_stay (IsSeat limits (drawn_count s.words) (word_at s.words) owner r.desk) s.views id (given v)
                (record {
                  extents = was.extents;
                  workers = was.workers;
                  a_book = λ _. (mine, record { made = ok.made; spare = λ m e. absurd (cc); booked = record { out = ok.booked.out; once = ok.booked.once; held = ok.booked.held } });
                  a_pass = λ h. absurd (true≢false (sym is_book ∙ h));
                })
                (λ i w other near. let know = r.seats i w near in record {
                  extents = know.extents;
                  workers = know.workers;
                  a_book = λ h. absurd (other ((know.a_book h).0 ∙ sym mine));
                  a_pass = λ h. let old = know.a_pass h in (with_other r.owner k last w.pass.number (λ same. other (sym old.0 ∙ (ap r.owner same ∙ spare.owned))) ∙ old.0, old.1);
                }) j d h)
                (λ h. subst (λ (y : ℕ × View). IsSeat limits (drawn_count s.words) (word_at s.words) owner r.desk y.0 y.1) (λ i. (sym h.0 i, h.1 i)) record {
                  extents = was.extents;
                  workers = was.workers;
                  a_book = λ h. absurd (true≢false (sym h));
                  a_pass = λ _. (
                    with_same r.owner k last,
                    record {
                      number = spare.number;
                      mine = λ worker e. (λ c. absurd (none_in e c), λ h. absurd (spare.unnamed worker e h.0 h.1));
                      others = λ _. refl;
                      once = once_none;
                      within = λ e c. absurd (none_in e c);
                      known = λ e c. absurd (none_in e c);
                    },
                  );
                })
                (at_push (set s.views id (given v)) (record (newcomer v) { pass = new_pass k }) d j there);
          }
