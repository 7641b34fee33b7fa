-- Segments have names of their own.
use Rattle.std.proofs.Common.{◌≡◌, ℕ, List, [], ◌∷◌, ◌++◌, refl}
use Rattle.aff_spec.specs.Names.{folder_name, eight_digits, segment_in}
use Rattle.aff_spec.specs.NameLaws.{SegmentsDiffer}
use Rattle.aff_spec.proofs.Digits.{digits_differ}
use Rattle.aff_spec.proofs.Escapes.{NoSlash, folders_differ, folder_has_no_slash}

-- a text is cut in one way at its first `/`
cut_once : (p q s t : List ℕ) → NoSlash p → NoSlash q → p ++ (47 ∷ s) ≡ q ++ (47 ∷ t) → (p ≡ q) × (s ≡ t)
cut_once [] [] s t none other e = (refl, cc)
cut_once [] (y ∷ q) s t none other e = absurd (other.0 cc)
cut_once (x ∷ p) [] s t none other e = absurd (none.0 cc)
cut_once (x ∷ p) (y ∷ q) s t none other e =
    let rest : p ++ (47 ∷ s) ≡ q ++ (47 ∷ t) = cc in
    let same = cut_once p q s t none.1 other.1 rest in
    let first : x ≡ y = cc in
    let front : p ≡ q = same.0 in
    (cc, same.1)

-- a segment's name is that of one folder and of one name in it
pub segment_parts : (stream other x y : List ℕ) → segment_in stream x ≡ segment_in other y → (stream ≡ other) × (x ≡ y)
segment_parts stream other x y e =
    let cut = cut_once (folder_name stream) (folder_name other) x y (folder_has_no_slash stream) (folder_has_no_slash other) e in
    (folders_differ stream other cut.0, cut.1)

pub segments_differ : SegmentsDiffer
segments_differ stream other number n suffix s below below_n e =
    let cut = cut_once (folder_name stream) (folder_name other) (eight_digits number ++ suffix) (eight_digits n ++ s) (folder_has_no_slash stream) (folder_has_no_slash other) e in
    let digits = digits_differ number n suffix s below below_n cut.1 in
    (folders_differ stream other cut.0, digits.0, digits.1)
