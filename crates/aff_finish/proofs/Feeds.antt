-- Segments that are fed piece by piece, and bevvy by bevvy.
use Rattle.std.proofs.Common.{◌≡◌, ℕ, ◌+◌, ◌<◌, ◌≤◌, List, [], ◌∷◌, ◌++◌, length, take, drop, refl, sym, ap, ◌∙◌, arith, append-nil, append_assoc}
use Rattle.std.specs.Prelude.{Option, None, Some, IsSomeAnd, unwrap_or}
use Rattle.std.specs.FinMap.{get}
use Rattle.std.specs.List.{flat_map, range_with_len}
use Rattle.std.proofs.Math.Seq.{take-add}
use Rattle.std.proofs.lemmas.Grind.{flat_map-append}
use Rattle.std.proofs.lemmas.List.{take_all}
use Rattle.aff_model.specs.Held.{Held, bytes_of, IsInside}
use Rattle.aff_model.proofs.Index.{range_with_len-more}

-- some bytes of a segment lie in it
inside_some : (o : Option (List ℕ)) (at n : ℕ) → 0 < n → at + n ≤ length (unwrap_or o []) → IsSomeAnd o (λ bytes. at + n ≤ length bytes)
inside_some None at n some low = absurd (omega (arith, some, low))
inside_some (Some bytes) at n some low = low

pub inside : (held : Held) (name : List ℕ) (at n : ℕ) → 0 < n → at + n ≤ length (bytes_of held name) → IsInside held name at n
inside held name at n some low = inside_some (get held name) at n some low

-- what is fed behind what was fed
pub more_of_segment : (bytes start before after : List ℕ) (done count : ℕ) → before ≡ start ++ take done bytes → after ≡ before ++ take count (drop done bytes) → after ≡ start ++ take (done + count) bytes
more_of_segment bytes start before after done count is next =
    next
    ∙ ap (λ v. v ++ take count (drop done bytes)) is
    ∙ append_assoc start (take done bytes) (take count (drop done bytes))
    ∙ ap (λ v. start ++ v) (sym (take-add done count bytes))

pub all_of_segment : (bytes start fed : List ℕ) (done : ℕ) → fed ≡ start ++ take done bytes → length bytes ≤ done → fed ≡ start ++ bytes
all_of_segment bytes start fed done is whole = is ∙ ap (λ v. start ++ v) (take_all done bytes whole)

pub more_of_bevvies : (f : ℕ → List ℕ) (start before after : List ℕ) (b : ℕ) → before ≡ start ++ flat_map f (range_with_len 0 b) → after ≡ before ++ f b → after ≡ start ++ flat_map f (range_with_len 0 (b + 1))
more_of_bevvies f start before after b is next =
    next
    ∙ ap (λ v. v ++ f b) is
    ∙ append_assoc start (flat_map f (range_with_len 0 b)) (f b)
    ∙ ap (λ v. start ++ v)
    (ap (λ v. flat_map f (range_with_len 0 b) ++ v) (sym (append-nil (f b)))
    ∙ sym (flat_map-append f (range_with_len 0 b) (b ∷ []))
    ∙ ap (flat_map f) (sym (range_with_len-more b)))

-- five digests that are fed one behind another
pub all_fed : (a b c m x none first second third : List ℕ) → none ≡ [] → first ≡ none ++ (a ++ (b ++ c)) → second ≡ first ++ m → third ≡ second ++ x → third ≡ a ++ (b ++ (c ++ (m ++ x)))
all_fed a b c m x none first second third e0 e1 e2 e3 =
    e3
    ∙ ap (λ v. v ++ x) (e2 ∙ ap (λ v. v ++ m) (e1 ∙ ap (λ v. v ++ (a ++ (b ++ c))) e0))
    ∙ append_assoc (a ++ (b ++ c)) m x
    ∙ append_assoc a (b ++ c) (m ++ x)
    ∙ ap (λ v. a ++ v) (append_assoc b c (m ++ x))
