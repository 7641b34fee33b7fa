-- The lines of hashes are read back.
use Rattle.std.proofs.Common.{◌≡◌, ℕ, ◌*◌, List, ◌++◌, codes, length, sym, ap, ◌∙◌, append_assoc}
use Rattle.std.proofs.lemmas.List.{append_cancel_left}
use Rattle.hex.specs.Hex.{decode_of, encode_lower, lower_digits}
use Rattle.hex.proofs.HexLemmas.{decode_of-encode_lower, decode_of-same, length-encode_with}
use Rattle.aff_hash.specs.declared.kind.Digests.{Digests}
use Rattle.aff_spec.specs.Digests.{digest_line, digest_lines}
use Rattle.aff_report.specs.Reported.{AreDigests, IsDigest}
use Rattle.aff_report.proofs.Splits.{split_at_length}

-- the digits of a digest
pub split_digest : (size : ℕ) (a b s t : List ℕ) → IsDigest size a → IsDigest size b → encode_lower a ++ s ≡ encode_lower b ++ t → (a ≡ b) × (s ≡ t)
split_digest size a b s t of_a of_b e =
    let long : length (encode_lower a) ≡ length (encode_lower b) = length-encode_with lower_digits a ∙ ap (λ n. 2 * n) (of_a.long ∙ sym of_b.long) ∙ sym (length-encode_with lower_digits b) in
    let parts = split_at_length (encode_lower a) (encode_lower b) s t long e in
    let back = decode_of-encode_lower b of_b.bytes_are in
    (decode_of-same (encode_lower a) a b (decode_of-encode_lower a of_a.bytes_are) (ap decode_of parts.0 ∙ back), parts.1)

-- the lines of hashes, by their digits
abbrev in_digits : List ℕ → List ℕ → List ℕ → List ℕ → List ℕ → List ℕ
in_digits md5 sha1 sha256 sha512 block_map =
    codes "md5 " ++ (md5 ++ (codes "\nsha1 " ++ (sha1 ++ (codes "\nsha256 " ++ (sha256 ++ (codes "\nsha512 " ++ (sha512 ++ (codes "\nblockmap " ++ (block_map ++ codes "\n")))))))))

lined : (a b c d e : List ℕ)
    → ((codes "md5" ++ (codes " " ++ (a ++ codes "\n"))) ++ ((codes "sha1" ++ (codes " " ++ (b ++ codes "\n"))) ++ ((codes "sha256" ++ (codes " " ++ (c ++ codes "\n")))
    ++ (codes "sha512" ++ (codes " " ++ (d ++ codes "\n")))))) ++ (codes "blockmap" ++ (codes " " ++ (e ++ codes "\n"))) ≡ in_digits a b c d e
lined a b c d e = simp append_assoc

pub hashes_tell : (c d : Digests) (m n : List ℕ) → AreDigests c → AreDigests d → IsDigest 64 m → IsDigest 64 n
    → digest_lines c.md5 c.sha1 c.sha256 c.sha512 ++ digest_line (codes "blockmap") m ≡ digest_lines d.md5 d.sha1 d.sha256 d.sha512 ++ digest_line (codes "blockmap") n
    → (c ≡ d) × (m ≡ n)
hashes_tell c d m n of_c of_d of_m of_n e =
    let whole = sym (lined (encode_lower c.md5) (encode_lower c.sha1) (encode_lower c.sha256) (encode_lower c.sha512) (encode_lower m)) ∙ e
    ∙ lined (encode_lower d.md5) (encode_lower d.sha1) (encode_lower d.sha256) (encode_lower d.sha512) (encode_lower n) in
    let md5 = split_digest 16 c.md5 d.md5 _ _ of_c.md5 of_d.md5 (append_cancel_left (codes "md5 ") _ _ whole) in
    let sha1 = split_digest 20 c.sha1 d.sha1 _ _ of_c.sha1 of_d.sha1 (append_cancel_left (codes "\nsha1 ") _ _ md5.1) in
    let sha256 = split_digest 32 c.sha256 d.sha256 _ _ of_c.sha256 of_d.sha256 (append_cancel_left (codes "\nsha256 ") _ _ sha1.1) in
    let sha512 = split_digest 64 c.sha512 d.sha512 _ _ of_c.sha512 of_d.sha512 (append_cancel_left (codes "\nsha512 ") _ _ sha256.1) in
    let block_map = split_digest 64 m n _ _ of_m of_n (append_cancel_left (codes "\nblockmap ") _ _ sha512.1) in
    (λ i. record { md5 = md5.0 i; sha1 = sha1.0 i; sha256 = sha256.0 i; sha512 = sha512.0 i }, block_map.0)
