-- The set that is percent_encoded is right: percent-encoding by it gives a folder's name.
use Rattle.std.proofs.Common.{◌≡◌, ℕ, suc, ◌<◌, Bool, true, List, [], ◌∷◌, ◌++◌, refl, ap, ◌∙◌, slice_index_or}
use Rattle.std.specs.Str.{bytes_eq}
use Rattle.std.specs.List.{flat_map}
use Rattle.std.proofs.lemmas.Bool.{agree_below_at}
use Rattle.std.proofs.lemmas.Slice.Eq.{bytes_eq-Decides}
use Rattle.percent_encoding.specs.Percent.{encode_byte, percent_encode}
use Rattle.percent_encoding.proofs.OnLiterals.{percent_encoding_on_literals}
use Rattle.aff_spec.specs.Names.{percent_encoded, folder_name}
use Rattle.aff_names.specs.declared.segment.TheConstants.{ESCAPED}

abbrev is_right : ℕ → Bool
is_right b = bytes_eq (encode_byte ESCAPED b) (percent_encoded b)

right_below : (b : ℕ) → b < 256 → is_right b ≡ true
unfolding percent_encoding_on_literals
right_below b small = agree_below_at is_right (λ _. true) 256 b refl small

each_is_right : (b : ℕ) → b < 256 → encode_byte ESCAPED b ≡ percent_encoded b
each_is_right b small = (bytes_eq-Decides (encode_byte ESCAPED b) (percent_encoded b)).0 (right_below b small)

all_are_right : (text : List ℕ) → ((i : ℕ) → slice_index_or text i 0 < 256) → flat_map (encode_byte ESCAPED) text ≡ folder_name text
all_are_right [] small = refl
all_are_right (b ∷ bytes) small =
    ap (λ v. v ++ flat_map (encode_byte ESCAPED) bytes) (each_is_right b (small 0))
    ∙ ap (λ v. percent_encoded b ++ v) (all_are_right bytes (λ i. small (suc i)))

pub percent_is_folder_name : (text : List ℕ) → ((i : ℕ) → slice_index_or text i 0 < 256) → percent_encode ESCAPED text ≡ folder_name text
unfolding percent_encode
percent_is_folder_name text small = all_are_right text small
