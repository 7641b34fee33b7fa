-- Pieces and their names.
use Rattle.std.proofs.Common.{◌≡◌, ℕ, suc, List, [], ◌∷◌, ◌++◌, length, map, nat_eq, refl, ap, sym, ◌∙◌, subst}
use mathlib.Core.List.{IsPrefix}
use base.Stored.{Coded}
use Rattle.std.specs.Prelude.{Contains}
use Rattle.std.specs.List.{IsDistinct}
use Rattle.std.proofs.lemmas.List.{map-append}
use Rattle.aff_model.specs.History.{Part}
use Rattle.aff_snapshot.specs.Codes.{Name, name_of, piece_code}
use Rattle.aff_snapshot.specs.Lists.{IsNew, names_of}
use Rattle.aff_snapshot.specs.Log.{AreOnce, IsFirst}
use Rattle.aff_snapshot.proofs.Once.{once_part}

module _ {R : Type 0} (c : Coded R) where
  -- pieces with one name are one piece
  name_tells : (p q : Part R) → name_of c p ≡ name_of c q → p ≡ q
  name_tells p q same = (piece_code c).inj p q (ap (λ (n : Name). n.code) same)

  pub extents_same : (pieces : List (Part R)) → map (λ (n : Name). n.extent) (names_of c pieces) ≡ map (λ (p : Part R). p.extent) pieces
  extents_same [] = refl
  extents_same (p ∷ pieces) = ap (λ es. p.extent ∷ es) (extents_same pieces)

  -- the name of a piece of an extent that the list lacks
  pub is_first : (pieces : List (Part R)) (p : Part R) (names : List Name) → names_of c pieces ≡ names → IsNew pieces p → IsFirst names (name_of c p)
  is_first pieces p names same new =
      λ has. new (subst (λ es. Contains es p.extent) (ap (map (λ (n : Name). n.extent)) (sym same) ∙ extents_same pieces) has)

  pub names_length : (pieces : List (Part R)) → length (names_of c pieces) ≡ length pieces
  names_length [] = refl
  names_length (p ∷ pieces) = ap suc (names_length pieces)

  -- what the names say of beginnings, the pieces say
  pub names_prefix : (ps qs : List (Part R)) → IsPrefix (names_of c ps) (names_of c qs) → IsPrefix ps qs
  names_prefix [] qs pre = (qs, refl)
  names_prefix (p ∷ ps) [] pre = absurd (cc (pre.1))
  names_prefix (p ∷ ps) (q ∷ qs) pre =
      let rest = names_prefix ps qs (pre.0, cc (pre.1)) in
      let head : name_of c p ≡ name_of c q = cc (pre.1) in
      let same : p ≡ q = name_tells p q head in
      (rest.0, cc (same, rest.1))

  -- pieces whose names begin a list of extents that stand once
  pub pieces_once : (pieces : List (Part R)) (all : List Name) → IsPrefix (names_of c pieces) all → AreOnce all → IsDistinct nat_eq (map (λ (p : Part R). p.extent) pieces)
  pieces_once pieces all pre once =
      let extent : Name → ℕ = λ n. n.extent in
      let whole : IsDistinct nat_eq (map extent (names_of c pieces ++ pre.0)) = subst AreOnce (sym pre.1) once in
      let split : map extent (names_of c pieces ++ pre.0) ≡ map extent (names_of c pieces) ++ map extent pre.0 = map-append extent (names_of c pieces) pre.0 in
      subst (IsDistinct nat_eq) (extents_same pieces) (once_part (map extent (names_of c pieces)) (map extent pre.0) (subst (IsDistinct nat_eq) split whole))
