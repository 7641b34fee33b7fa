-- How far a run goes, as a loop counts it.
use Rattle.std.proofs.Common.{◌≡◌, ℕ, ◌+◌, ◌<◌, ◌≤◌, true, false, cond, List, length, get_or, drop, refl, sym, ap, ◌∙◌, add-zero}
use Rattle.std.proofs.lemmas.List.{at_drop_more, at_drop_all, get_or-drop}
use Rattle.std.proofs.lemmas.List.Sums.{prefix_len-drop_no, prefix_len-drop_yes, prefix_len-drop_all, prefix_len-le-length}
use Rattle.aff_turtle.specs.declared.class.Class.{Class}
use Rattle.aff_turtle.specs.Characters.{goes_on, jointed}

pub ruleset runs = (prefix_len-drop_no, prefix_len-drop_yes, prefix_len-drop_all, prefix_len-le-length)

jointed_at : (class : Class) (joint : ℕ) (next : Class) (cs : List ℕ) (place c follows : ℕ) → place < length cs → c ≡ get_or cs place c → follows ≡ get_or cs (place + 1) 0
    → jointed class joint next (drop place cs) ≡ cond (goes_on class joint next c follows) (1 + jointed class joint next (drop (place + 1) cs)) 0
jointed_at class joint next cs place c follows inside e f =
    let g : get_or (drop (place + 1) cs) 0 0 ≡ follows = get_or-drop (place + 1) cs 0 0 ∙ ap (λ k. get_or cs k 0) (add-zero (place + 1)) ∙ sym f in
    at_drop_more (jointed class joint next) cs place c inside ∙ rw (sym e, g) refl

pub jointed_yes : (class : Class) (joint : ℕ) (next : Class) (cs : List ℕ) (place c follows : ℕ) → place < length cs → c ≡ get_or cs place c → follows ≡ get_or cs (place + 1) 0 → goes_on class joint next c follows ≡ true
    → jointed class joint next (drop place cs) ≡ 1 + jointed class joint next (drop (place + 1) cs)
jointed_yes class joint next cs place c follows inside e f passes = jointed_at class joint next cs place c follows inside e f ∙ rw passes refl

pub jointed_no : (class : Class) (joint : ℕ) (next : Class) (cs : List ℕ) (place c follows : ℕ) → place < length cs → c ≡ get_or cs place c → follows ≡ get_or cs (place + 1) 0 → goes_on class joint next c follows ≡ false
    → jointed class joint next (drop place cs) ≡ 0
jointed_no class joint next cs place c follows inside e f stops = jointed_at class joint next cs place c follows inside e f ∙ rw stops refl

pub jointed_end : (class : Class) (joint : ℕ) (next : Class) (cs : List ℕ) (place : ℕ) → length cs ≤ place → jointed class joint next (drop place cs) ≡ 0
jointed_end class joint next cs place past = at_drop_all (jointed class joint next) cs place past
