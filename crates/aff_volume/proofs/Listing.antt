-- The list of a folder's segments.
use Rattle.std.proofs.Common.{◌≡◌, ℕ, List, [], ◌∷◌, length, map, Bool, true, false, cond, ◌&&◌, refl, sym, ap, subst, ◌∙◌}
use Rattle.std.proofs.Math.Dec.{T}
use Rattle.std.specs.Prelude.{Some, None, option_map}
use Rattle.std.specs.Ordering.{nat_cmp, eq_by_cmp, is_lt}
use Rattle.std.specs.declared.cmp.Ordering.{Ordering}
use Rattle.std.specs.Cmp.Lexicographic.{slice_cmp}
use Rattle.std.specs.FinMap.{find, is_sorted, entries, entries_sorted, get-entries}
use Rattle.std.specs.FinMap.Entries.{below_all}
use Rattle.aff_model.specs.Held.{Held, lengths}
use Rattle.aff_bevvy.specs.Segments.{AreSorted, Lengths, held_length, listed_length}

abbrev order : List ℕ → List ℕ → Ordering
order = slice_cmp nat_cmp

is_true : (b : Bool) → T b → b ≡ true
is_true true h = refl
is_true false h = absurd h

-- ---- the list of a folder

find-lengths : (name : List ℕ) (es : List (List ℕ × List ℕ)) → find order name (map (λ e. (e.0, length e.1)) es) ≡ option_map length (find order name es)
find-lengths name [] = refl
find-lengths name (e ∷ es) =
    elim (eq_by_cmp order name e.0) as (λ b. cond b (Some (length e.1)) (find order name (map (λ e. (e.0, length e.1)) es)) ≡ option_map length (cond b (Some e.1) (find order name es))) [
      | true ↦ refl
      | false ↦ find-lengths name es
    ]

pub listed_name : (held : Held) (name : List ℕ) → listed_length (lengths held) name ≡ held_length held name
listed_name held name = find-lengths name (entries held) ∙ ap (option_map length) (sym (get-entries held name))

pub listed_held : (held : Held) (segments : List (List ℕ × ℕ)) → segments ≡ lengths held → listed_length segments ≡ held_length held
listed_held held segments is = ap listed_length is ∙ (λ i name. listed_name held name i)

below-lengths : (x : List ℕ) (es : List (List ℕ × List ℕ)) → below_all order x (map (λ e. (e.0, length e.1)) es) ≡ below_all order x es
below-lengths x [] = refl
below-lengths x (e ∷ es) = ap (λ b. is_lt (order x e.0) && b) (below-lengths x es)

sorted-lengths : (es : List (List ℕ × List ℕ)) → is_sorted order (map (λ e. (e.0, length e.1)) es) ≡ is_sorted order es
sorted-lengths [] = refl
sorted-lengths (e ∷ es) = λ i. below-lengths e.0 es i && sorted-lengths es i

pub are_sorted : (held : Held) (segments : List (List ℕ × ℕ)) → segments ≡ lengths held → AreSorted segments
are_sorted held segments is = subst AreSorted (sym is) (sorted-lengths (entries held) ∙ is_true _ (entries_sorted held))

-- what a sorted list says of lengths holds of the folder's
pub in_folder : (held : Held) (segments : List (List ℕ × ℕ)) → segments ≡ lengths held → (P : Lengths → Type 0) → (AreSorted segments → P (listed_length segments)) → P (held_length held)
in_folder held segments is P own = subst P (listed_held held segments is) (own (are_sorted held segments is))
