-- What a change of one word leaves of what the seats know.
use Rattle.std.proofs.Common.{◌≡◌, ◌≢◌, ◌↔◌, ℕ, ◌+◌, ◌<◌, ◌≤◌, List, length, set, sym, ap, ◌∙◌, subst, arith, get_or-set_other, get_or-set_same}
use mathlib.Core.Logic.{dite}
use native.Mathlib.Decide.{ℕ_discrete}
use Rattle.aff_claim.specs.declared.view.BookView.{BookView}
use Rattle.aff_claim.specs.declared.view.Limits.{Limits}
use Rattle.aff_claim.specs.declared.view.PassView.{PassView}
use Rattle.aff_claim.specs.declared.word.Word.{Word}
use Rattle.aff_claim.specs.declared.word.Word.TheVariants.{Free}
use Rattle.aff_claim.specs.Rule.{IsPass, IsSpare, HasBooked}
use Rattle.aff_claim.specs.Words.{Names, IsPublished, number_of, word_of, drawn_count, word_at}
use Rattle.aff_claim.proofs.WordLaws.{word_of-number_of}

-- the words go from `word` to `now`
module _ (limits : Limits) (word now : ℕ → Word) where
  pub pass_kept : (drawn more : ℕ) (p : PassView) → drawn ≤ more
      → (p.number < limits.workers → (e : ℕ) → e < limits.extents → Names (word e) p.number ↔ Names (now e) p.number)
      → ((e : ℕ) → e < limits.extents → word e ≢ Free → now e ≢ Free)
      → IsPass limits drawn word p → IsPass limits more now p
  pass_kept drawn more p grows same taken ok = record {
    number = let h = ok.number in omega arith;
    mine = λ worker e. (
      (λ c. let was = (ok.mine worker e).0 c in (was.0, (same worker e was.0).0 was.1)),
      (λ h. (ok.mine worker e).1 (h.0, (same worker e h.0).1 h.1)),
    );
    others = ok.others;
    once = ok.once;
    within = ok.within;
    known = λ e c. let was = ok.known e c in (was.0, taken e was.0 was.1);
  }

  pub booked_kept : (b : BookView) → ((e : ℕ) → e < limits.extents → IsPublished (word e) ↔ IsPublished (now e))
      → ((e k : ℕ) → e < limits.extents → Names (word e) k → Names (now e) k)
      → HasBooked limits.extents word b → HasBooked limits.extents now b
  booked_kept b same named ok = record {
    out = λ e. (
      (λ c. let was = (ok.out e).0 c in (was.0, (same e was.0).0 was.1)),
      (λ h. (ok.out e).1 (h.0, (same e h.0).1 h.1)),
    );
    once = ok.once;
    held = λ e k c. let was = ok.held e k c in (was.0, named e k was.0 was.1);
  }

  pub spare_kept : (drawn more : ℕ) (owner : ℕ → ℕ) (seat k : ℕ) → drawn ≤ more
      → (k < limits.workers → (e : ℕ) → e < limits.extents → Names (now e) k → Names (word e) k)
      → IsSpare limits drawn word owner seat k → IsSpare limits more now owner seat k
  spare_kept drawn more owner seat k grows back ok = record {
    number = let h = ok.number in omega arith;
    owned = ok.owned;
    unnamed = λ worker e l named. ok.unnamed worker e l (back worker e l named);
  }

-- what holds of a word holds of the same one
module _ (v w : Word) (same : w ≡ v) where
  pub names_same : (k : ℕ) → Names v k ↔ Names w k
  names_same k = (subst (λ x. Names x k) (sym same), subst (λ x. Names x k) same)

  pub published_same : IsPublished v ↔ IsPublished w
  published_same = (subst IsPublished (sym same), subst IsPublished same)

  pub taken_same : v ≢ Free → w ≢ Free
  taken_same = subst (λ x. x ≢ Free) (sym same)

-- the claim word of the extent e becomes w
module _ (words : List ℕ) (e : ℕ) (w : Word) (inside : e + 1 < length words) where
  abbrev pub after : List ℕ
  after = set words (e + 1) (number_of w)

  pub here : word_at after e ≡ w
  here = ap word_of (get_or-set_same words (e + 1) (number_of w) 0 inside) ∙ word_of-number_of w

  pub elsewhere : (f : ℕ) → f ≢ e → word_at after f ≡ word_at words f
  elsewhere f other = ap word_of (get_or-set_other words (e + 1) (f + 1) (number_of w) 0 (λ h. other (omega arith)))

  pub drawn_same : drawn_count after ≡ drawn_count words
  drawn_same = get_or-set_other words (e + 1) 0 (number_of w) 0 (λ h. omega arith)

  -- what holds of each other word as it was, and of the new one, holds of each
  pub each : (P : ℕ → Word → Type 0) → ((f : ℕ) → f ≢ e → P f (word_at words f)) → P e w → (f : ℕ) → P f (word_at after f)
  each P others mine f = dite (ℕ_discrete f e)
      (λ (same : f ≡ e). subst (λ g. P g (word_at after g)) (sym same) (subst (P e) (sym here) mine))
      (λ (other : f ≢ e). subst (P f) (sym (elsewhere f other)) (others f other))

-- another word, which is no claim word of an extent, becomes n
module _ (extents : ℕ) (words : List ℕ) (i n : ℕ) (beside : (e : ℕ) → e < extents → e + 1 ≢ i) where
  pub words_same : (e : ℕ) → e < extents → word_at (set words i n) e ≡ word_at words e
  words_same e l = ap word_of (get_or-set_other words i (e + 1) n 0 (beside e l))
