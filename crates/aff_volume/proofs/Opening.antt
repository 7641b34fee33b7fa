-- What was read of a folder is its volume.
use Rattle.std.proofs.Common.{◌≡◌, ℕ, ◌<◌, ◌↔◌, ◌+◌, ◌==◌, List, length, false, IsTrue, sym, ap, ◌∙◌, below_more, arith}
use Rattle.std.proofs.lemmas.Bool.Decides.{nat_tests}
use Rattle.std.specs.Prelude.{Option, None, Some}
use Rattle.aff_model.specs.Held.{Held}
use Rattle.aff_spec.specs.Names.{idx_name, map_name}
use Rattle.aff_bevvy.specs.Segments.{Lengths, held_length}
use Rattle.aff_info.specs.declared.info.Info.{Info}
use Rattle.aff_map.specs.Mapped.{Mapped}
use Rattle.aff_finish.specs.Named.{IsNamed}
use Rattle.aff_volume.specs.declared.segments.Tables.{Tables}
use Rattle.aff_volume.specs.Hashed.{IsHashed}
use Rattle.aff_volume.specs.Opened.{HasMap, IsThere, IsVolumeOf}
use Rattle.aff_volume.specs.Parts.{AreParts}
use Rattle.aff_volume.proofs.Refused.{some_length}

pub volume_is : (held : Held) (info : Info) (places : List ℕ) (count : ℕ) (map : Mapped) (tables : Tables) → IsNamed held (record { info = info; aside = places }) → IsThere held info → AreParts held info map tables
    → count ≡ length places → IsVolumeOf held (record { info = info; aside = count; map = map; map_len = tables.map_len; idx_len = tables.idx_len })
volume_is held info places count map tables named there parts is = record {
  places = places;
  whole = record { named = named; there = there };
  aside = is;
  map = parts.map;
  map_len = parts.map_len;
  idx_len = parts.idx_len;
}

pub has_map : (held : Held) (image : List ℕ) (m n : ℕ) → held_length held (map_name image) ≡ Some m → held_length held (idx_name image) ≡ Some n → HasMap held image
has_map held image m n is own = record { map = some_length _ m is; idx = some_length _ n own }

-- a length that was looked up is another
pub same_length : (o : Option ℕ) (found len : ℕ) → o ≡ Some found → IsTrue (found == len) ↔ (o ≡ Some len)
same_length o found len is = (
  λ h. let same : found ≡ len = grind (arith, nat_tests, h) in is ∙ ap Some same,
  λ e. let same : found ≡ len = some_same found len (sym is ∙ e) in grind (arith, nat_tests, same),
)
  where
    some_same : (m n : ℕ) → Some m ≡ Some n → m ≡ n
    some_same m n h = cc

pub no_length_there : (o : Option ℕ) (len : ℕ) → o ≡ None → IsTrue false ↔ (o ≡ Some len)
no_length_there o len is = (λ h. absurd cc, λ e. absurd (none_some (sym is ∙ e)))
  where
    none_some : None ≡ Some len → ⊥
    none_some h = absurd cc

-- the bevvies before one are hashed
pub hashed_more : (len : Lengths) (stream : List ℕ) (n b : ℕ) → ((k : ℕ) → k < b → IsHashed len stream n k) → IsHashed len stream n b → (k : ℕ) → k < b + 1 → IsHashed len stream n k
hashed_more len stream n b before own = below_more _ _ before own
