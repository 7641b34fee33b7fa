-- No two texts are percent_encoded alike, and none has a `/` then.
use Rattle.std.proofs.Common.{◌≡◌, ℕ, ◌/◌, ◌%◌, Bool, true, false, List, [], ◌∷◌, ◌++◌, refl, sym, ap, cond, arith, inl, inr}
use Rattle.std.specs.Prelude.{◌≢◌, Contains}
use Rattle.std.proofs.lemmas.Bool.Decides.{nat_tests}
use Rattle.std.proofs.lemmas.List.Elements.{Contains-append_cases, Contains-push_cases}
use Rattle.aff_spec.specs.Names.{percent_encoded, is_plain, hex_digit, folder_name}
use Rattle.aff_spec.specs.NameLaws.{FoldersDiffer, FoldersHaveNoSlash}

not_plain : (b c : ℕ) → is_plain c ≡ false → is_plain b ≡ true → b ≢ c
not_plain b c other plain e = let same : is_plain b ≡ is_plain c = ap is_plain e in cc

hex_same : (m n : ℕ) → hex_digit m ≡ hex_digit n → m ≡ n
hex_same m n e = grind (arith, nat_tests)

hex_is_no_slash : (n : ℕ) → hex_digit n ≢ 47
hex_is_no_slash n e = grind (arith, nat_tests)

-- a byte as it is where it is plain, else percent_encoded
abbrev shape : ℕ → Bool → List ℕ
shape b plain = cond plain (b ∷ []) (37 ∷ hex_digit (b / 16) ∷ hex_digit (b % 16) ∷ [])

shapes_differ : (x y : ℕ) (s t : List ℕ) (p q : Bool) → is_plain x ≡ p → is_plain y ≡ q → shape x p ++ s ≡ shape y q ++ t → (x ≡ y) × (s ≡ t)
shapes_differ x y s t true true hx hy e = (cc, cc)
shapes_differ x y s t true false hx hy e = absurd (not_plain x 37 refl hx cc)
shapes_differ x y s t false true hx hy e = absurd (not_plain y 37 refl hy cc)
shapes_differ x y s t false false hx hy e =
    let high : x / 16 ≡ y / 16 = hex_same (x / 16) (y / 16) cc in
    let low : x % 16 ≡ y % 16 = hex_same (x % 16) (y % 16) cc in
    (omega arith, cc)

some_byte : (b : ℕ) (s : List ℕ) (plain : Bool) → [] ≢ shape b plain ++ s
some_byte b s true e = cc
some_byte b s false e = cc

pub folders_differ : FoldersDiffer
folders_differ [] [] e = refl
folders_differ [] (y ∷ ys) e = absurd (some_byte y (folder_name ys) (is_plain y) e)
folders_differ (x ∷ xs) [] e = absurd (some_byte x (folder_name xs) (is_plain x) (sym e))
folders_differ (x ∷ xs) (y ∷ ys) e =
    let same = shapes_differ x y (folder_name xs) (folder_name ys) (is_plain x) (is_plain y) refl refl e in
    let rest : xs ≡ ys = folders_differ xs ys same.1 in
    let first : x ≡ y = same.0 in
    cc

-- no byte is `/`
abbrev pub NoSlash : List ℕ → Type 0
NoSlash [] = Unit {0}
NoSlash (b ∷ bytes) = (b ≢ 47) × NoSlash bytes

NoSlash-append : (xs ys : List ℕ) → NoSlash xs → NoSlash ys → NoSlash (xs ++ ys)
NoSlash-append [] ys p q = q
NoSlash-append (x ∷ xs) ys p q = (p.0, NoSlash-append xs ys p.1 q)

shape_has_none : (b : ℕ) (plain : Bool) → is_plain b ≡ plain → NoSlash (shape b plain)
shape_has_none b true h = (not_plain b 47 refl h, tt)
shape_has_none b false h =
    (λ e. omega arith, (hex_is_no_slash (b / 16), (hex_is_no_slash (b % 16), tt)))

pub folder_has_no_slash : (urn : List ℕ) → NoSlash (folder_name urn)
folder_has_no_slash [] = tt
folder_has_no_slash (b ∷ bytes) =
    NoSlash-append (percent_encoded b) (folder_name bytes) (shape_has_none b (is_plain b) refl) (folder_has_no_slash bytes)

none_in_none : ¬ Contains {X = ℕ} [] 47
none_in_none (k, below, is) = absurd (omega arith)

none_contained : (bytes : List ℕ) → NoSlash bytes → ¬ Contains bytes 47
none_contained [] none has = none_in_none has
none_contained (b ∷ bytes) none has =
    elim (Contains-append_cases (b ∷ []) bytes 47 has) [
      | inl first ↦ elim (Contains-push_cases [] b 47 first) [ inl nowhere ↦ none_in_none nowhere | inr slash ↦ none.0 slash ]
      | inr later ↦ none_contained bytes none.1 later
    ]

pub folders_have_no_slash : FoldersHaveNoSlash
folders_have_no_slash urn = none_contained (folder_name urn) (folder_has_no_slash urn)
