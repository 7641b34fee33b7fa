-- Names read one after another.
use Rattle.std.proofs.Common.{◌≡◌, ◌⊎◌, ℕ, zero, suc, ◌+◌, ◌-◌, ◌<◌, ◌≤◌, Bool, true, false, cond, List, [], ◌∷◌, ◌++◌, append_assoc, length, drop, get_or, Option, Some, None, Result, Ok, Err, refl, sym, ap, subst, ◌∙◌, inl, inr, arith}
use Rattle.std.specs.Prelude.{filter, IsSome}
use Rattle.std.specs.List.{list_any}
use Rattle.std.proofs.lemmas.List.{at_drop_more, at_drop_all}
use Rattle.aff_turtle.specs.Triples.{Fact}
use Rattle.aff_info.specs.Table.{names, fits}
use Rattle.aff_info.specs.Statements.{one_of}
use Rattle.aff_info.specs.Faults.{InfoFault, and_then, Fails}
use Rattle.aff_info.specs.Reading.{stated, runs, is_place, others}
use Rattle.aff_info.specs.declared.draft.PartialInfo.{PartialInfo}
use Rattle.aff_info.specs.declared.error.InfoError.{InfoError}
use Rattle.aff_info.specs.declared.name.InfoName.{InfoName}
use Rattle.aff_info.proofs.Given.{fails_then}

at_place : (ns : List InfoName) (facts : List Fact) (i : ℕ) (n x : InfoName) (d : PartialInfo) → i < length ns → n ≡ get_or ns i x
    → runs (drop i ns) facts d ≡ and_then (stated n (one_of (filter (fits n d) facts)) d) (runs (drop (i + 1) ns) facts)
unfolding runs
at_place ns facts i n x d inside is = at_drop_more (λ ms. runs ms facts d) ns i x inside ∙ rw (sym is) refl

pub runs_more : (ns : List InfoName) (facts : List Fact) (i : ℕ) (n x : InfoName) (d new : PartialInfo) (total : Result PartialInfo InfoFault) → i < length ns → n ≡ get_or ns i x
    → stated n (one_of (filter (fits n d) facts)) d ≡ Ok new → runs (drop i ns) facts d ≡ total → runs (drop (i + 1) ns) facts new ≡ total
runs_more ns facts i n x d new total inside is e so_far =
    let one : runs (drop i ns) facts d ≡ runs (drop (i + 1) ns) facts new = at_place ns facts i n x d inside is ∙ rw e refl in
    sym one ∙ so_far

pub runs_fail : (ns : List InfoName) (facts : List Fact) (i : ℕ) (n x : InfoName) (d : PartialInfo) (total : Result PartialInfo InfoFault) (e : InfoError) → i < length ns → n ≡ get_or ns i x
    → Fails (stated n (one_of (filter (fits n d) facts)) d) e → runs (drop i ns) facts d ≡ total → Fails total e
runs_fail ns facts i n x d total e inside is fails so_far =
    let all = fails_then (stated n (one_of (filter (fits n d) facts)) d) (runs (drop (i + 1) ns) facts) e fails in
    subst (λ (outcome : Result PartialInfo InfoFault). Fails outcome e) (sym (at_place ns facts i n x d inside is) ∙ so_far) all

pub runs_end : (ns : List InfoName) (facts : List Fact) (i : ℕ) (d : PartialInfo) (total : Result PartialInfo InfoFault) → length ns ≤ i → runs (drop i ns) facts d ≡ total → total ≡ Ok d
unfolding runs
runs_end ns facts i d total past so_far = sym so_far ∙ at_drop_all (λ ms. runs ms facts d) ns i past

pub others_more : (fs : List (Option ℕ)) (count place : ℕ) → place < count
    → others fs place (count - place) ≡ cond (list_any (is_place place) fs) (others fs (place + 1) (count - (place + 1))) (place ∷ others fs (place + 1) (count - (place + 1)))
others_more fs count place lt = let k : count - place ≡ suc (count - (place + 1)) = omega arith in rw k refl

pub others_end : (fs : List (Option ℕ)) (count place : ℕ) → count ≤ place → others fs place (count - place) ≡ []
others_end fs count place past = let k : count - place ≡ zero = omega arith in rw k refl

pub others_skip : (fs : List (Option ℕ)) (count place : ℕ) (front total : List ℕ) → place < count → true ≡ list_any (is_place place) fs
    → front ++ others fs place (count - place) ≡ total → front ++ others fs (place + 1) (count - (place + 1)) ≡ total
others_skip fs count place front total lt among so_far =
    let e : others fs place (count - place) ≡ others fs (place + 1) (count - (place + 1)) = others_more fs count place lt ∙ rw (sym among) refl in
    ap (λ (xs : List ℕ). front ++ xs) (sym e) ∙ so_far

pub others_keep : (fs : List (Option ℕ)) (count place : ℕ) (front total : List ℕ) → place < count → false ≡ list_any (is_place place) fs
    → front ++ others fs place (count - place) ≡ total → (front ++ place ∷ []) ++ others fs (place + 1) (count - (place + 1)) ≡ total
others_keep fs count place front total lt among so_far =
    let e : others fs place (count - place) ≡ place ∷ others fs (place + 1) (count - (place + 1)) = others_more fs count place lt ∙ rw (sym among) refl in
    append_assoc front (place ∷ []) (others fs (place + 1) (count - (place + 1))) ∙ ap (λ (xs : List ℕ). front ++ xs) (sym e) ∙ so_far
