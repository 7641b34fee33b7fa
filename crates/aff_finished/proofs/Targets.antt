-- The list of targets of a volume, as it is read.
use Rattle.std.proofs.Common.{◌≡◌, ℕ, ◌+◌, ◌-◌, true, false, ◌==◌, cond, List, [], ◌∷◌, ◌++◌, length, length-append, take, get_or, refl, sym, ap, subst, ◌∙◌, arith, codes, append_assoc}
use Rattle.std.specs.Prelude.{Some, None, All, IsSome, if◌then◌else◌}
use Rattle.std.specs.List.{AllByRecursion, filter_map, cons_option}
use Rattle.std.specs.Str.{bytes_eq}
use Rattle.std.proofs.Math.Seq.{take-append_seam}
use Rattle.std.proofs.lemmas.Bool.{and_parts}
use Rattle.std.proofs.lemmas.List.{get_or-append-add}
use Rattle.std.proofs.lemmas.List.Elements.{All-append, All-cons, All-nil, All-from_recursion}
use Rattle.std.proofs.lemmas.List.Splits.{slice_split_at}
use Rattle.aff_model.proofs.HeldLaws.{bytes_eq_same}
use Rattle.aff_spec.specs.Lines.{lines_of}
use Rattle.aff_spec.specs.Names.{stream_urn, zero_iri, unreadable_iri}
use Rattle.aff_spec.specs.Volumes.{targets_text}
use Rattle.aff_spec.specs.Words.{is_uuid, uuid_from, fits_uuid, is_dash_place, is_hex}
use Rattle.aff_map.specs.declared.target.Target.{Target}
use Rattle.aff_map.specs.declared.target.Target.TheVariants.{Stored, Zero, Unreadable}
use Rattle.aff_map.specs.Targets.{IsNamed, target_lines, target_of, targets_of, without_last_feed}

-- a uuid has no line feed
no_feed : (k b : ℕ) → fits_uuid k b ≡ true → (b == 10) ≡ false
no_feed k b fits =
    elim (is_dash_place k) as (λ t. cond t (b == 45) (is_hex b) ≡ true → (b == 10) ≡ false) [
      | true ↦ λ e. grind (arith, e)
      | false ↦ λ e. hex_no_feed b e
    ] fits
  where
    hex_no_feed : (b : ℕ) → is_hex b ≡ true → (b == 10) ≡ false
    hex_no_feed b hex = grind (arith, hex)

no_feeds : (k : ℕ) (bytes : List ℕ) → uuid_from k bytes ≡ true → AllByRecursion (λ b. (b == 10) ≡ false) bytes
no_feeds k [] h = tt
no_feeds k (b ∷ bytes) h =
    let parts = and_parts (fits_uuid k b) (uuid_from (k + 1) bytes) h in
    (no_feed k b parts.0, no_feeds (k + 1) bytes parts.1)

-- the list without its last line feed
abbrev symbols : List ℕ
symbols = zero_iri ++ (codes "\n" ++ unreadable_iri)

abbrev front : List ℕ → List ℕ
front stream = stream ++ (codes "\n" ++ symbols)

front_is : (stream : List ℕ) → targets_text stream ≡ front stream ++ 10 ∷ []
unfolding targets_text
front_is stream = sym (append_assoc stream (codes "\n" ++ symbols) (10 ∷ []))

without_feed : (xs : List ℕ) → without_last_feed (xs ++ 10 ∷ []) ≡ xs
without_feed xs =
    let last : length (xs ++ 10 ∷ []) - 1 ≡ length xs = omega (arith, length-append xs (10 ∷ [])) in
    let own : length xs + 0 ≡ length xs = omega arith in
    let byte : get_or (xs ++ 10 ∷ []) (length xs) 0 ≡ 10 = ap (λ k. get_or (xs ++ 10 ∷ []) k 0) (sym own) ∙ get_or-append-add xs (10 ∷ []) 0 0 in
    (λ i. if get_or (xs ++ 10 ∷ []) (last i) 0 == 10 then take (last i) (xs ++ 10 ∷ []) else (xs ++ 10 ∷ []))
    ∙ ap (λ b. if b == 10 then take (length xs) (xs ++ 10 ∷ []) else (xs ++ 10 ∷ [])) byte
    ∙ take-append_seam xs (10 ∷ [])

module _ (uuid : List ℕ) (ok : is_uuid uuid ≡ true) where
  clean : All (λ b. (b == 10) ≡ false) (stream_urn uuid)
  clean =
      let P : ℕ → Type 0 = λ b. (b == 10) ≡ false in
      let first : All P (codes "aff4://") = All-from_recursion P (codes "aff4://") (refl, (refl, (refl, (refl, (refl, (refl, (refl, tt))))))) in
      let last : All P (codes "/data") = All-from_recursion P (codes "/data") (refl, (refl, (refl, (refl, (refl, tt))))) in
      All-append P (codes "aff4://") (uuid ++ codes "/data") first (All-append P uuid (codes "/data") (All-from_recursion P uuid (no_feeds 0 uuid ok)) last)

  -- its lines are the three targets
  pub lines_are : target_lines (targets_text (stream_urn uuid)) ≡ stream_urn uuid ∷ zero_iri ∷ unreadable_iri ∷ []
  lines_are =
      ap target_lines (front_is (stream_urn uuid))
      ∙ ap lines_of (without_feed (front (stream_urn uuid)))
      ∙ slice_split_at (λ b. b == 10) (stream_urn uuid) 10 symbols clean refl

  stream_is : target_of (stream_urn uuid) (stream_urn uuid) ≡ Some Stored
  stream_is = ap (λ b. cond b (Some Stored) (if bytes_eq (stream_urn uuid) zero_iri then Some Zero else (if bytes_eq (stream_urn uuid) unreadable_iri then Some Unreadable else None))) (bytes_eq_same (stream_urn uuid))

  -- which each name one
  pub targets_are : targets_of (stream_urn uuid) (targets_text (stream_urn uuid)) ≡ Stored ∷ Zero ∷ Unreadable ∷ []
  targets_are = ap (filter_map (target_of (stream_urn uuid))) lines_are ∙ ap (λ o. cons_option o (Zero ∷ Unreadable ∷ [])) stream_is

  pub all_named : All (IsNamed (stream_urn uuid)) (target_lines (targets_text (stream_urn uuid)))
  all_named =
      subst (All (IsNamed (stream_urn uuid))) (sym lines_are)
      (All-cons (IsNamed (stream_urn uuid)) (stream_urn uuid) (zero_iri ∷ unreadable_iri ∷ []) (subst (IsSome {T = Target}) (sym stream_is) refl)
      (All-cons (IsNamed (stream_urn uuid)) zero_iri (unreadable_iri ∷ []) refl (All-cons (IsNamed (stream_urn uuid)) unreadable_iri [] refl (All-nil (IsNamed (stream_urn uuid))))))
