-- A folder that lists no segment holds nothing.
use Rattle.std.proofs.Common.{◌≡◌, ℕ, List, length, sym, ap, ◌∙◌, arith}
use Rattle.std.specs.FinMap.{empty, empty_of_len, entries, len, len-empty, len-entries}
use Rattle.std.specs.Ordering.{nat_cmp}
use Rattle.std.specs.Cmp.Lexicographic.{slice_cmp}
use Rattle.std.proofs.lemmas.List.{length-map}
use Rattle.aff_model.specs.Held.{Held, lengths}

count : (held : Held) → length (lengths held) ≡ len held
count held = length-map (entries held) (λ e. (e.0, length e.1)) ∙ sym (len-entries held)

pub is_free : (held : Held) (listed : List (List ℕ × ℕ)) → listed ≡ lengths held → length listed ≡ 0 → held ≡ empty
is_free held listed are none = empty_of_len held (omega (arith, count held, ap length are, none))

pub has_none : (held : Held) (listed : List (List ℕ × ℕ)) → listed ≡ lengths held → held ≡ empty → length listed ≡ 0
has_none held listed are is = omega (arith, count held, ap length are, ap len is, len-empty (slice_cmp nat_cmp) (List ℕ))
