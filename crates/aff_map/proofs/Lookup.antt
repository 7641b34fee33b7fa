-- Lookup in a list of entries and one more.
use Rattle.std.proofs.Common.{◌≡◌, ℕ, ◌+◌, ◌<◌, ◌≤◌, Bool, true, false, cond, List, [], ◌∷◌, ◌++◌, get_or, ap, ◌∙◌, arith}
use Rattle.std.specs.Prelude.{Some, None, find}
use Rattle.std.specs.Option.{option_map}
use Rattle.std.specs.List.{All}
use Rattle.std.proofs.lemmas.List.Elements.{All-head, All-tail}
use Rattle.aff_fields.specs.declared.entry.Entry.{Entry}
use Rattle.aff_spec.specs.Runs.{covers, lookup, spot_in}
use Rattle.aff_spec.proofs.Lookups.{find_nothing, covers_before, covers_after, covers_within}

find-push_miss : {X : Type 0} (p : X → Bool) (xs : List X) (y : X) → p y ≡ false → find p (xs ++ y ∷ []) ≡ find p xs
find-push_miss p [] y fails = ap (λ b. cond b (Some y) None) fails
find-push_miss p (x ∷ xs) y fails = ap (cond (p x) (Some x)) (find-push_miss p xs y fails)

find-push_hit : {X : Type 0} (p : X → Bool) (xs : List X) (y : X) → All (λ x. p x ≡ false) xs → p y ≡ true → find p (xs ++ y ∷ []) ≡ Some y
find-push_hit p [] y none passes = ap (λ b. cond b (Some y) None) passes
find-push_hit p (x ∷ xs) y none passes =
    ap (λ b. cond b (Some x) (find p (xs ++ y ∷ []))) (All-head (λ x. p x ≡ false) x xs none)
    ∙ find-push_hit p xs y (All-tail (λ x. p x ≡ false) x xs none) passes

-- no entry reaches the place
pub none_covers : (i n : ℕ) (entries : List Entry) → All (λ e. e.at + e.len ≤ n) entries → n ≤ i → All (λ e. covers i e ≡ false) entries
none_covers i n entries ends h k d below =
    let e : Entry = get_or entries k d in
    let end : e.at + e.len ≤ n = ends k d below in
    covers_after i e (omega arith)

pub lookup-past : (i n : ℕ) (entries : List Entry) → All (λ e. e.at + e.len ≤ n) entries → n ≤ i → lookup entries i ≡ None
lookup-past i n entries ends h = ap (option_map (spot_in i)) (find_nothing (covers i) entries (none_covers i n entries ends h))

pub lookup-push_before : (i : ℕ) (entries : List Entry) (e : Entry) → i < e.at → lookup (entries ++ e ∷ []) i ≡ lookup entries i
lookup-push_before i entries e h = ap (option_map (spot_in i)) (find-push_miss (covers i) entries e (covers_before i e h))

pub lookup-push_within : (i n : ℕ) (entries : List Entry) (e : Entry) → All (λ e. e.at + e.len ≤ n) entries → n ≤ i → e.at ≤ i → i < e.at + e.len → lookup (entries ++ e ∷ []) i ≡ Some (spot_in i e)
lookup-push_within i n entries e ends h low high =
    ap (option_map (spot_in i)) (find-push_hit (covers i) entries e (none_covers i n entries ends h) (covers_within i e low high))
