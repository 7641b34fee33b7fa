-- The test of a URN, and what a URN is.
use Rattle.std.proofs.Common.{◌≡◌, ℕ, zero, suc, ◌+◌, Bool, true, false, ◌&&◌, eqb, List, [], ◌∷◌, ◌++◌, length, take, drop, codes, refl, sym, ap, ◌∙◌, arith, eq-eqb}
use Rattle.std.proofs.lemmas.Bool.{eqb-true}
use Rattle.std.proofs.lemmas.List.{take_at, drop_at, drop-drop}
use Rattle.std.proofs.lemmas.Slice.Eq.{bytes_eq-Decides}
use Rattle.std.specs.Str.{bytes_eq}
use Rattle.aff_names.specs.Urn.{IsPath, IsUrn}
use Rattle.aff_names.specs.declared.error.NameError.{NameError}
use Rattle.aff_names.specs.declared.error.NameError.TheVariants as texts
use Rattle.aff_spec.specs.Words.{fits_uuid, uuid_from, is_uuid}
use Rattle.aff_info.specs.Accept.{is_path, is_urn, urn_in}
use Rattle.aff_info.specs.Faults.{Fails, error_of}
use Rattle.aff_info.specs.declared.name.InfoName.{InfoName}

both : (a b : Bool) → (a && b) ≡ true → (a ≡ true) × (b ≡ true)
both true b h = (refl, h)
both false b h = absurd cc

uuid_length : (bytes : List ℕ) (k : ℕ) → uuid_from k bytes ≡ true → length bytes + k ≡ 36
uuid_length [] k h = let e = eqb-true k 36 h in omega (arith, e)
uuid_length (b ∷ bytes) k h = let e = uuid_length bytes (k + 1) (both (fits_uuid k b) (uuid_from (k + 1) bytes) h).1 in omega (arith, e)

path_is : (bytes : List ℕ) → is_path bytes ≡ true → IsPath bytes
path_is [] h = tt
path_is (b ∷ bytes) h = eqb-true b 47 h

is_path_true : (bytes : List ℕ) → IsPath bytes → is_path bytes ≡ true
is_path_true [] h = refl
is_path_true (b ∷ bytes) h = eq-eqb b 47 h

take-drop : (n : ℕ) (xs : List ℕ) → take n xs ++ drop n xs ≡ xs
take-drop zero xs = refl
take-drop (suc n) [] = refl
take-drop (suc n) (x ∷ xs) = ap (λ (ys : List ℕ). x ∷ ys) (take-drop n xs)

pub is_urn_true : (text : List ℕ) → IsUrn text → is_urn text ≡ true
unfolding is_urn
is_urn_true text h =
    let n : length h.uuid ≡ 36 = let e = uuid_length h.uuid 0 h.uuid_is in omega (arith, e) in
    rw (h.is, take_at h.uuid h.path 36 n, drop_at h.uuid h.path 36 n, h.uuid_is, is_path_true h.path h.path_is) refl

pub urn_from_test : (text : List ℕ) → is_urn text ≡ true → IsUrn text
unfolding is_urn
urn_from_test text h =
    let rest = drop 7 text in
    let k = both (bytes_eq (take 7 text) (codes "aff4://") && is_uuid (take 36 rest)) (is_path (drop 43 text)) h in
    let l = both (bytes_eq (take 7 text) (codes "aff4://")) (is_uuid (take 36 rest)) k.0 in
    let scheme : take 7 text ≡ codes "aff4://" = (bytes_eq-Decides (take 7 text) (codes "aff4://")).0 l.0 in
    let split : take 36 rest ++ drop 36 rest ≡ rest = take-drop 36 rest in
    record {
      uuid = take 36 rest;
      path = drop 36 rest;
      is = sym (take-drop 7 text) ∙ ap (λ (xs : List ℕ). xs ++ rest) scheme ∙ ap (λ (xs : List ℕ). codes "aff4://" ++ xs) (sym split);
      uuid_is = l.1;
      path_is = path_is (drop 36 rest) (ap is_path (drop-drop 36 7 text) ∙ k.1);
    }

refused : (name : InfoName) (text : List ℕ) (b : Bool) (e f : NameError) → is_urn text ≡ b → (IsUrn text → e ≡ f) → (e ≡ f → ⊥) → b ≡ false
refused name text true e f h k never = absurd (never (k (urn_from_test text h)))
refused name text false e f h k never = refl

-- a text that is refused is no URN, unless memory ran out
pub urn_fails : (name : InfoName) (text : List ℕ) (e : NameError) → (IsUrn text → e ≡ texts.Memory) → Fails (urn_in name text) (error_of name e)
urn_fails name text texts.Memory h = tt
urn_fails name text texts.NoScheme h = rw (refused name text (is_urn text) texts.NoScheme texts.Memory refl h (λ e. cc)) refl
urn_fails name text (texts.BadUuid at) h = rw (refused name text (is_urn text) (texts.BadUuid at) texts.Memory refl h (λ e. cc)) refl
