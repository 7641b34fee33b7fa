-- Prefixes in a map from their names.
use Rattle.std.proofs.Common.{◌≡◌, ℕ, Bool, true, false, cond, List, [], ◌∷◌, Option, Some, refl, sym, ap, ◌∙◌}
use Rattle.std.proofs.lemmas.Map.Text.{is_eq-slice_cmp, btree_map_updates_str}
use Rattle.std.specs.BTreeMap as tree
use Rattle.std.specs.BTreeMap.{BTreeMap}
use Rattle.std.specs.Cmp.Lexicographic.{slice_cmp}
use Rattle.std.specs.Map.{lookup}
use Rattle.std.specs.Option.{option_map}
use Rattle.std.specs.Ordering.{is_eq, nat_cmp}
use Rattle.std.specs.Str.{bytes_eq}
use denote.Ref.{Bor}
use Rattle.aff_turtle.specs.Prefixes.{declared}
use Rattle.aff_turtle.specs.Names.{prefixes_of}
use Rattle.std.proofs.lemmas.Slice.Eq.{bytes_eq-Decides}

-- two tests of facts that follow from one another
same_test : (a b : Bool) → (a ≡ true → b ≡ true) → (b ≡ true → a ≡ true) → a ≡ b
same_test true b h k = sym (h refl)
same_test false true h k = k refl
same_test false false h k = refl

bytes_eq_sym : (xs ys : List ℕ) → bytes_eq xs ys ≡ bytes_eq ys xs
bytes_eq_sym xs ys = same_test (bytes_eq xs ys) (bytes_eq ys xs) (λ h. (bytes_eq-Decides ys xs).1 (sym ((bytes_eq-Decides xs ys).0 h))) (λ h. (bytes_eq-Decides xs ys).1 (sym ((bytes_eq-Decides ys xs).0 h)))

option_map-cond : (b : Bool) (x : Bor (List ℕ)) (o : Option (Bor (List ℕ))) → option_map (λ iri. iri.now) (cond b (Some x) o) ≡ cond b (Some x.now) (option_map (λ iri. iri.now) o)
option_map-cond true x o = refl
option_map-cond false x o = refl

-- what a look-up finds is what is declared
declared_entries : (name : List ℕ) (es : List (Bor (List ℕ) × Bor (List ℕ))) → option_map (λ iri. iri.now) (lookup (λ k. is_eq (slice_cmp nat_cmp name k.now)) es) ≡ declared (prefixes_of es) name
declared_entries name [] = refl
declared_entries name (e ∷ es) =
    let test : is_eq (slice_cmp nat_cmp name e.0.now) ≡ bytes_eq e.0.now name = is_eq-slice_cmp name e.0.now ∙ bytes_eq_sym name e.0.now in
    option_map-cond (is_eq (slice_cmp nat_cmp name e.0.now)) e.1 (lookup (λ k. is_eq (slice_cmp nat_cmp name k.now)) es)
    ∙ ap (λ b. cond b (Some e.1.now) (option_map (λ iri. iri.now) (lookup (λ k. is_eq (slice_cmp nat_cmp name k.now)) es))) test
    ∙ ap (cond (bytes_eq e.0.now name) (Some e.1.now)) (declared_entries name es)

pub declared_map : (name : List ℕ) (m : BTreeMap (Bor (List ℕ)) (Bor (List ℕ))) → option_map (λ iri. iri.now) (tree.get_by (λ k. slice_cmp nat_cmp name k.now) m) ≡ declared (prefixes_of m.entries) name
declared_map name m = declared_entries name m.entries

-- a name that is put into the map stands for its IRI, each other name for what it stood for
pub declares_more : (key : List ℕ) (iri : Bor (List ℕ)) (m n : BTreeMap (Bor (List ℕ)) (Bor (List ℕ)))
    → tree.UpdatesBy (λ x y. slice_cmp nat_cmp x.now y.now) (λ k. slice_cmp nat_cmp key k.now) m n (Some iri)
    → (name : List ℕ) → declared (prefixes_of n.entries) name ≡ cond (bytes_eq key name) (Some iri.now) (declared (prefixes_of m.entries) name)
declares_more key iri m n h name =
    sym (declared_map name n)
    ∙ ap (option_map (λ iri. iri.now)) (btree_map_updates_str key m n (Some iri) h name)
    ∙ option_map-cond (bytes_eq key name) iri (tree.get_by (λ k. slice_cmp nat_cmp name k.now) m)
    ∙ ap (cond (bytes_eq key name) (Some iri.now)) (declared_map name m)
