-- The steps of a pass keep the rule, and tell what they say.
use Rattle.std.proofs.Common.{◌≡◌, ◌≢◌, ◌↔◌, ℕ, ◌+◌, ◌*◌, ◌%◌, ◌^◌, ◌<◌, ◌≤◌, ◌==◌, false, true≢false, List, [], ◌∷◌, ◌++◌, length, get_or, set, refl, sym, ap, ◌∙◌, subst, ⊎_elim, arith, length-set, get_or-set_other, eq-eqb, ne_eqb, Contains}
use mathlib.Core.Option.{none, some}
use mathlib.Core.Logic.{dite}
use native.Mathlib.Decide.{dec_le}
use lib.ListN.{get_elem?}
use lib.Seq.{set-get_or}
use prog.Atomic.{either}
use Rattle.std.proofs.lemmas.List.Elements.{Contains-push_cases, Contains-push, Contains-append_left}
use Rattle.atomic_table.specs.Table.{State, Me, step, keeps, stepped, Allows}
use Rattle.aff_claim.specs.declared.view.Limits.{Limits}
use Rattle.aff_claim.specs.declared.view.PassView.{PassView}
use Rattle.aff_claim.specs.declared.view.View.{View}
use Rattle.aff_claim.specs.declared.word.Word.{Word}
use Rattle.aff_claim.specs.declared.word.Word.TheVariants.{Free, Claimed, Published}
use Rattle.aff_claim.specs.Rule.{AreClaims, IsSeat, IsPass, MayStand}
use Rattle.aff_claim.specs.Steps.{looked, tried, TellsPass, turns, claims, loads}
use Rattle.aff_claim.specs.Words.{Names, IsPublished, number_of, word_at, drawn_count}
use Rattle.aff_claim.proofs.Kept.{pass_kept, booked_kept, spare_kept, names_same, published_same, taken_same, after, here, drawn_same, each, words_same}
use Rattle.aff_claim.proofs.ListLaws.{none_in, seats_stay, once_push}
use Rattle.aff_claim.proofs.WordLaws.{word_is}

-- a pass that has claimed is a worker's
pub is_worker : (limits : Limits) (drawn : ℕ) (word : ℕ → Word) (p : PassView) (e : ℕ) → IsPass limits drawn word p → Contains p.mine e → p.number < limits.workers
is_worker limits drawn word p e ok c = dite (dec_le limits.workers p.number)
    (λ (le : limits.workers ≤ p.number). absurd (none_in e (subst (λ l. Contains l e) (ok.others le) c)))
    (λ more. omega arith)

-- a pass that finds an extent taken
knows_more : (limits : Limits) (drawn : ℕ) (word : ℕ → Word) (p : PassView) (e : ℕ) (w : Word) → e < limits.extents → word e ≢ Free → IsPass limits drawn word p
    → IsPass limits drawn word (record p { known = p.known ++ e ∷ []; found = p.found ++ (e, w) ∷ [] })
knows_more limits drawn word p e w inside taken ok = record {
  number = ok.number;
  mine = ok.mine;
  others = ok.others;
  once = ok.once;
  within = λ f c. Contains-append_left p.known (e ∷ []) f (ok.within f c);
  known = λ f c. ⊎_elim (λ h. ok.known f h) (λ (is : e ≡ f). subst (λ g. (g < limits.extents) × (word g ≢ Free)) is (inside, taken)) (Contains-push_cases p.known e f c);
}

looked_kept : (limits : Limits) (drawn : ℕ) (word : ℕ → Word) (p : PassView) (e : ℕ) (w : Word) → e < limits.extents → word e ≡ w → IsPass limits drawn word p → IsPass limits drawn word (looked p e w)
looked_kept limits drawn word p e Free inside is ok = record { number = ok.number; mine = ok.mine; others = ok.others; once = ok.once; within = ok.within; known = ok.known }
looked_kept limits drawn word p e (Claimed k) inside is ok = knows_more limits drawn word p e (Claimed k) inside (λ free. let clash : Claimed k ≡ Free = sym is ∙ free in cc) ok
looked_kept limits drawn word p e (Published k) inside is ok = knows_more limits drawn word p e (Published k) inside (λ free. let clash : Published k ≡ Free = sym is ∙ free in cc) ok

-- what is told, at the extent that the step was on
pub told_at : (e : ℕ) (P : ℕ → Type 0) → P e → (f : ℕ) → e + 1 ≡ f + 1 → P f
told_at e P h f is = let same : e ≡ f = omega arith in subst P same h

module _ {S : Type 0} (limits : Limits) (slots id : ℕ) (me : Me S View) (is_pass : me.0.is_book ≡ false) where
  abbrev Rule : State S View → Type 0
  Rule = AreClaims limits

  abbrev v : View
  v = me.0

  -- a step that changes no word
  unmoved : (s : State S View) (r : Rule s) (i : ℕ) (q : PassView) → q.number ≡ v.pass.number → get_elem? s.views id ≡ some v
      → (IsPass limits (drawn_count s.words) (word_at s.words) v.pass → IsPass limits (drawn_count s.words) (word_at s.words) q)
      → Rule (stepped s i (get_or s.words i 0) id me.1 (record v { pass = q }) keeps)
  unmoved s r i q same at more = subst (λ (ws : List ℕ). Rule record { words = ws; homes = s.homes; views = set s.views id (record v { pass = q }) }) (sym (set-get_or s.words i 0)) record {
    desk = r.desk;
    owner = r.owner;
    width = r.width;
    words = r.words;
    seats = let was = r.seats id v at in let mine = was.a_pass is_pass in
        seats_stay (IsSeat limits (drawn_count s.words) (word_at s.words) r.owner r.desk) s.views id (record v { pass = q })
        (record { extents = was.extents; workers = was.workers; a_book = λ h. absurd (true≢false (sym h ∙ is_pass)); a_pass = λ _. (ap r.owner same ∙ mine.0, more mine.1) })
        (λ j d _ there. r.seats j d there);
  }

  tells : (s : State S View) (r : Rule s) (e : ℕ) → e < limits.extents → get_elem? s.views id ≡ some v → TellsPass v e (word_at s.words e)
  tells s r e inside at =
      let was = r.seats id v at in
      let ok = (was.a_pass is_pass).1 in record {
        number = λ k named. let le = (r.words e inside k named).0 in let same = was.workers in omega arith;
        mine = λ c. ((ok.mine (is_worker limits (drawn_count s.words) (word_at s.words) v.pass e ok c) e).0 c).1;
        known = λ c. (ok.known e c).1;
      }

  pub load_allows : (e : ℕ) → e < limits.extents → Allows Rule slots id me (e + 1) (λ x. x) (loads (step slots (e + 1) 0 0 none) me)
  load_allows e inside s r homes at small =
      let w = word_at s.words e in
      let q = looked v.pass e w in (
        record v { pass = q },
        keeps,
        tt,
        unmoved s r (e + 1) q refl at (λ ok. looked_kept limits (drawn_count s.words) (word_at s.words) v.pass e w inside refl ok),
        told_at e (λ f. (((record v { pass = q }, me.1) ≡ (record v { pass = looked v.pass f w }, me.1)) × TellsPass v f w)) (refl, tells s r e inside at),
      )

  -- the exchange wins: a free word names the pass
  won : (s : State S View) (r : Rule s) (e : ℕ) → e < limits.extents → v.pass.number < limits.workers → get_elem? s.views id ≡ some v → word_at s.words e ≡ Free
      → Rule (stepped s (e + 1) (2 * v.pass.number + 1) id me.1 (record v { pass = tried v.pass e Free }) keeps)
  won s r e inside worker at free =
      let k = v.pass.number in
      let words = s.words in
      let w : Word = Claimed k in
      let wide = r.width in
      let room : e + 1 < length words = omega arith in
      let was = r.seats id v at in
      let mine = was.a_pass is_pass in
      let q = tried v.pass e Free in record {
        desk = r.desk;
        owner = r.owner;
        width = length-set words (e + 1) (number_of w) ∙ wide;
        words = λ f l. subst (λ c. MayStand limits.workers c (word_at (after words e w room) f)) (sym (drawn_same words e w room))
            (each words e w room (λ g x. g < limits.extents → MayStand limits.workers (drawn_count words) x) (λ g _ h. r.words g h)
            (λ _ m named. let low = mine.1.number in (omega arith, λ _. omega arith)) f l);
        seats = seats_stay (IsSeat limits (drawn_count (after words e w room)) (word_at (after words e w room)) r.owner r.desk) s.views id (record v { pass = q })
            (record {
              extents = was.extents;
              workers = was.workers;
              a_book = λ h. absurd (true≢false (sym h ∙ is_pass));
              a_pass = λ _. (mine.0, won_mine words e room inside worker free mine.1);
            })
            (λ j d other there. others words e room free r.desk r.owner mine.0 j d other (r.seats j d there));
      }
    where
      k : ℕ
      k = v.pass.number

      -- no other seat's number stands in the word, before or after
      others : (words : List ℕ) (e : ℕ) (room : e + 1 < length words) → word_at words e ≡ Free → (desk : ℕ) (owner : ℕ → ℕ) → owner v.pass.number ≡ id → (j : ℕ) (d : View) → j ≢ id
          → IsSeat limits (drawn_count words) (word_at words) owner desk j d
          → IsSeat limits (drawn_count (after words e (Claimed v.pass.number) room)) (word_at (after words e (Claimed v.pass.number) room)) owner desk j d
      others words e room free desk owner mine j d other know =
          let w : Word = Claimed v.pass.number in
          let count = drawn_same words e w room in
          let grows : drawn_count words ≤ drawn_count (after words e w room) = omega arith in
          let apart : (m : ℕ) → owner m ≡ j → Names w m → ⊥ = (λ m owned named. other (sym owned ∙ (ap owner (sym named) ∙ mine))) in
          let unnamed : (m : ℕ) → Names (word_at words e) m → ⊥ = (λ m named. subst (λ x. Names x m) free named) in record {
            extents = know.extents;
            workers = know.workers;
            a_book = λ h. let was = know.a_book h in (
              was.0,
              record {
                made = count ∙ was.1.made;
                spare = λ m drawn. let ok = was.1.spare m drawn in spare_kept limits (word_at words) (word_at (after words e w room)) (drawn_count words) (drawn_count (after words e w room)) owner j m grows
                    (λ worker f l. each words e w room (λ g x. Names x m → Names (word_at words g) m) (λ g _ named. named) (λ named. absurd (apart m ok.owned named)) f) ok;
                booked = booked_kept limits (word_at words) (word_at (after words e w room)) d.book
                    (λ f l. each words e w room (λ g x. IsPublished (word_at words g) ↔ IsPublished x) (λ g _. (λ h. h, λ h. h)) (λ h. subst IsPublished free h, λ h. absurd h) f)
                    (λ f m l. each words e w room (λ g x. Names (word_at words g) m → Names x m) (λ g _ named. named) (λ named. absurd (unnamed m named)) f) was.1.booked;
              },
            );
            a_pass = λ h. let was = know.a_pass h in (
              was.0,
              pass_kept limits (word_at words) (word_at (after words e w room)) (drawn_count words) (drawn_count (after words e w room)) d.pass grows
                  (λ worker f l. each words e w room (λ g x. Names (word_at words g) d.pass.number ↔ Names x d.pass.number) (λ g _. (λ h. h, λ h. h))
                  (λ named. absurd (unnamed d.pass.number named), λ named. absurd (apart d.pass.number was.0 named)) f)
                  (λ f l. each words e w room (λ g x. word_at words g ≢ Free → x ≢ Free) (λ g _ h. h) (λ _ is. let clash : Claimed v.pass.number ≡ Free = is in cc) f) was.1,
            );
          }

      won_mine : (words : List ℕ) (e : ℕ) (room : e + 1 < length words) → e < limits.extents → v.pass.number < limits.workers → word_at words e ≡ Free → IsPass limits (drawn_count words) (word_at words) v.pass
          → IsPass limits (drawn_count (after words e (Claimed v.pass.number) room)) (word_at (after words e (Claimed v.pass.number) room)) (tried v.pass e Free)
      won_mine words e room inside worker free ok =
          let p = v.pass in
          let w : Word = Claimed p.number in
          let now = after words e w room in
          let count = drawn_same words e w room in
          let it = here words e w room in record {
            number = let h = ok.number in omega arith;
            mine = λ _ f. (
              (λ c. ⊎_elim
                  (λ h. let was = (ok.mine worker f).0 h in (was.0, each words e w room (λ g x. Names (word_at words g) p.number → Names x p.number) (λ g _ named. named) (λ _. refl) f was.1))
                  (λ (is : e ≡ f). subst (λ g. (g < limits.extents) × Names (word_at now g) p.number) is (inside, subst (λ x. Names x p.number) (sym it) refl))
                  (Contains-push_cases p.mine e f c)),
              (λ h. each words e w room (λ g x. g < limits.extents → Names x p.number → Contains (p.mine ++ e ∷ []) g)
                  (λ g _ l named. Contains-append_left p.mine (e ∷ []) g ((ok.mine worker g).1 (l, named))) (λ _ _. Contains-push p.mine e) f h.0 h.1),
            );
            others = λ le. absurd (omega arith);
            once = once_push p.mine e ok.once (λ c. subst (λ x. Names x p.number) free ((ok.mine worker e).0 c).1);
            within = λ f c. ⊎_elim (λ h. Contains-append_left p.known (e ∷ []) f (ok.within f h)) (λ (is : e ≡ f). subst (λ g. Contains (p.known ++ e ∷ []) g) is (Contains-push p.known e)) (Contains-push_cases p.mine e f c);
            known = λ f c. ⊎_elim
                (λ h. let was = ok.known f h in (was.0, each words e w room (λ g x. word_at words g ≢ Free → x ≢ Free) (λ g _ z. z) (λ _ is. let clash : Claimed p.number ≡ Free = is in cc) f was.1))
                (λ (is : e ≡ f). subst (λ g. (g < limits.extents) × (word_at now g ≢ Free)) is (inside, subst (λ x. x ≢ Free) (sym it) (λ is. let clash : Claimed p.number ≡ Free = is in cc)))
                (Contains-push_cases p.known e f c);
          }

  -- the exchange finds the extent taken
  lost : (s : State S View) (r : Rule s) (e : ℕ) → e < limits.extents → get_elem? s.views id ≡ some v → (w : Word) → word_at s.words e ≡ w → get_or s.words (e + 1) 0 ≢ 0
      → Rule (stepped s (e + 1) (either (get_or s.words (e + 1) 0 == 0) (2 * v.pass.number + 1) (get_or s.words (e + 1) 0)) id me.1 (record v { pass = looked v.pass e w }) keeps)
  lost s r e inside at w is ne =
      subst (λ b. Rule (stepped s (e + 1) (either b (2 * v.pass.number + 1) (get_or s.words (e + 1) 0)) id me.1 (record v { pass = looked v.pass e w }) keeps))
      (sym (ne_eqb (get_or s.words (e + 1) 0) 0 ne)) (unmoved s r (e + 1) (looked v.pass e w) refl at (λ ok. looked_kept limits (drawn_count s.words) (word_at s.words) v.pass e w inside is ok))

  -- the exchange, by the word that it finds
  exchanged : (s : State S View) (r : Rule s) (e : ℕ) → e < limits.extents → v.pass.number < limits.workers → get_elem? s.views id ≡ some v → (w : Word) → word_at s.words e ≡ w
      → Rule (stepped s (e + 1) (either (get_or s.words (e + 1) 0 == 0) (2 * v.pass.number + 1) (get_or s.words (e + 1) 0)) id me.1 (record v { pass = tried v.pass e w }) keeps)
  exchanged s r e inside worker at Free is =
      subst (λ b. Rule (stepped s (e + 1) (either b (2 * v.pass.number + 1) (get_or s.words (e + 1) 0)) id me.1 (record v { pass = tried v.pass e Free }) keeps))
      (sym (eq-eqb (get_or s.words (e + 1) 0) 0 (word_is (get_or s.words (e + 1) 0) Free is))) (won s r e inside worker at is)
  exchanged s r e inside worker at (Claimed m) is = lost s r e inside at (Claimed m) is (let n = word_is (get_or s.words (e + 1) 0) (Claimed m) is in omega arith)
  exchanged s r e inside worker at (Published m) is = lost s r e inside at (Published m) is (let n = word_is (get_or s.words (e + 1) 0) (Published m) is in omega arith)

  pub claim_allows : (e : ℕ) → e < limits.extents → v.pass.number < limits.workers
      → Allows Rule slots id me (e + 1) (λ x. either (x == 0) (2 * v.pass.number + 1) x) (claims (step slots (e + 1) 0 (2 * v.pass.number + 1) none) me)
  claim_allows e inside worker s r homes at small =
      let w = word_at s.words e in (
        record v { pass = tried v.pass e w },
        keeps,
        tt,
        exchanged s r e inside worker at w refl,
        told_at e (λ f. (((record v { pass = tried v.pass e w }, me.1) ≡ (record v { pass = tried v.pass f w }, me.1)) × TellsPass v f w)) (refl, tells s r e inside at),
      )

  -- a step on a word that is no claim word: any number may stand there, and the pass may remember more beside its claims
  pub aside : (s : State S View) (r : Rule s) (i n : ℕ) (q : PassView) → limits.extents < i → get_elem? s.views id ≡ some v → q.number ≡ v.pass.number
      → (IsPass limits (drawn_count (set s.words i n)) (word_at (set s.words i n)) v.pass → IsPass limits (drawn_count (set s.words i n)) (word_at (set s.words i n)) q)
      → Rule (stepped s i n id me.1 (record v { pass = q }) keeps)
  aside s r i n q behind at number more =
      let words = s.words in
      let same = words_same limits.extents words i n (λ e l h. omega arith) in
      let count : drawn_count (set words i n) ≡ drawn_count words = get_or-set_other words i 0 n 0 (λ h. omega arith) in
      let seat : (j : ℕ) (d : View) → IsSeat limits (drawn_count words) (word_at words) r.owner r.desk j d → IsSeat limits (drawn_count (set words i n)) (word_at (set words i n)) r.owner r.desk j d = seat_same words (set words i n) r.owner r.desk same count in
      let was = seat id v (r.seats id v at) in
      let mine = was.a_pass is_pass in record {
        desk = r.desk;
        owner = r.owner;
        width = length-set words i n ∙ r.width;
        words = λ f l. subst (λ c. MayStand limits.workers c (word_at (set words i n) f)) (sym count) (subst (MayStand limits.workers (drawn_count words)) (sym (same f l)) (r.words f l));
        seats = seats_stay (IsSeat limits (drawn_count (set words i n)) (word_at (set words i n)) r.owner r.desk) s.views id (record v { pass = q })
            (record { extents = was.extents; workers = was.workers; a_book = λ h. absurd (true≢false (sym h ∙ is_pass)); a_pass = λ _. (ap r.owner number ∙ mine.0, more mine.1) })
            (λ j d _ there. seat j d (r.seats j d there));
      }
    where
      seat_same : (words now : List ℕ) (owner : ℕ → ℕ) (desk : ℕ) → ((e : ℕ) → e < limits.extents → word_at now e ≡ word_at words e) → drawn_count now ≡ drawn_count words → (j : ℕ) (d : View)
          → IsSeat limits (drawn_count words) (word_at words) owner desk j d → IsSeat limits (drawn_count now) (word_at now) owner desk j d
      seat_same words now owner desk same count j d know =
          let grows : drawn_count words ≤ drawn_count now = omega arith in record {
            extents = know.extents;
            workers = know.workers;
            a_book = λ h. let was = know.a_book h in (
              was.0,
              record {
                made = count ∙ was.1.made;
                spare = λ m drawn. spare_kept limits (word_at words) (word_at now) (drawn_count words) (drawn_count now) owner j m grows (λ _ f l. (names_same (word_at words f) (word_at now f) (same f l) m).1) (was.1.spare m drawn);
                booked = booked_kept limits (word_at words) (word_at now) d.book (λ f l. published_same (word_at words f) (word_at now f) (same f l)) (λ f m l. (names_same (word_at words f) (word_at now f) (same f l) m).0) was.1.booked;
              },
            );
            a_pass = λ h. let was = know.a_pass h in (
              was.0,
              pass_kept limits (word_at words) (word_at now) (drawn_count words) (drawn_count now) d.pass grows
                  (λ _ f l. names_same (word_at words f) (word_at now f) (same f l) d.pass.number) (λ f l. taken_same (word_at words f) (word_at now f) (same f l)) was.1,
            );
          }

  -- the cursor
  pub turn_allows : (i : ℕ) → limits.extents < i → Allows Rule slots id me i (λ x. (x + 1) % 2 ^ 64) (turns (step slots i 1 0 none) me)
  turn_allows i behind s r homes at small = (v, keeps, tt, aside s r i ((get_or s.words i 0 + 1) % 2 ^ 64) v.pass behind at refl (λ ok. ok), refl)
