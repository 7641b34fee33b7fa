-- The whole text of a report is read back.
use Rattle.std.proofs.Common.{◌≡◌, ℕ, ◌<◌, List, ◌++◌, codes, length, refl, sym, ◌∙◌, arith, append_assoc}
use Rattle.std.specs.Fmt.{decimal}
use Rattle.std.proofs.lemmas.List.{append_cancel_left}
use Rattle.aff_spec.specs.Digests.{digest_line, digest_lines}
use Rattle.aff_spec.specs.Report.{publication_lines}
use Rattle.aff_report.specs.Examiners.{examiner_lines}
use Rattle.aff_report.specs.Reported.{IsReported, Reported, reported_text}
use Rattle.aff_report.specs.Sessions.{session_lines}
use Rattle.aff_report.proofs.Ranks.{rank}
use Rattle.aff_report.proofs.Splits.{lacks_from, split_at_byte, split_decimal}
use Rattle.aff_report.proofs.ToldExaminers.{examiners_rank, examiners_tell}
use Rattle.aff_report.proofs.ToldHashes.{hashes_tell}
use Rattle.aff_report.proofs.ToldPublications.{publications_tell}
use Rattle.aff_report.proofs.ToldSessions.{sessions_rank, sessions_tell}

-- the hashes, and what stands before them: examiners, sessions, publications
abbrev hash_part : Reported → List ℕ
hash_part r = digest_lines r.linear.md5 r.linear.sha1 r.linear.sha256 r.linear.sha512 ++ digest_line (codes "blockmap") r.block_map

abbrev from_examiners : Reported → List ℕ
from_examiners r = examiner_lines 1 r.findings ++ hash_part r

abbrev from_sessions : Reported → List ℕ
from_sessions r = session_lines 1 r.sessions ++ from_examiners r

hash_rank : (r : Reported) → rank (hash_part r) ≡ 6
hash_rank r = refl

examiner_rank : (r : Reported) → 4 < rank (from_examiners r)
examiner_rank r =
    let high = hash_rank r in
    let low = examiners_rank 1 r.findings (hash_part r) (omega arith) in
    omega arith

session_rank : (r : Reported) → 1 < rank (from_sessions r)
session_rank r =
    let low = sessions_rank 1 r.sessions (from_examiners r) (examiner_rank r) in
    omega arith

fields : (uuid size extents count history s : List ℕ)
    → ((codes "volume aff4://" ++ (uuid ++ (codes "\nsize " ++ (size ++ (codes "\nextents " ++ (extents ++ (codes "\npublications " ++ (count ++ codes "\n")))))))) ++ history) ++ s
    ≡ codes "volume aff4://" ++ (uuid ++ (codes "\nsize " ++ (size ++ (codes "\nextents " ++ (extents ++ (codes "\npublications " ++ (count ++ (codes "\n" ++ (history ++ s)))))))))
fields uuid size extents count history s = simp append_assoc

fields_of : (r : Reported) → reported_text r
    ≡ codes "volume aff4://" ++ (r.uuid ++ (codes "\nsize " ++ (decimal r.size ++ (codes "\nextents " ++ (decimal r.extents
    ++ (codes "\npublications " ++ (decimal (length r.history) ++ (codes "\n" ++ (publication_lines 1 r.history ++ from_sessions r)))))))))
fields_of r = fields r.uuid (decimal r.size) (decimal r.extents) (decimal (length r.history)) (publication_lines 1 r.history) (from_sessions r)

-- what two reports with one text agree on before their publications
record AreBegun (a b : Reported) : Type 0 where
  pub uuid : a.uuid ≡ b.uuid
  pub size : a.size ≡ b.size
  pub extents : a.extents ≡ b.extents
  pub rest : publication_lines 1 a.history ++ from_sessions a ≡ publication_lines 1 b.history ++ from_sessions b

begun : (a b : Reported) → IsReported a → IsReported b → reported_text a ≡ reported_text b → AreBegun a b
begun a b is_a is_b e =
    let whole = append_cancel_left (codes "volume aff4://") _ _ (sym (fields_of a) ∙ e ∙ fields_of b) in
    let uuid = split_at_byte 10 a.uuid b.uuid _ _ (lacks_from 10 a.uuid is_a.uuid) (lacks_from 10 b.uuid is_b.uuid) whole in
    let size = split_decimal 10 a.size b.size _ _ (omega arith) is_a.size is_b.size (append_cancel_left (codes "size ") _ _ uuid.1) in
    let extents = split_decimal 10 a.extents b.extents _ _ (omega arith) is_a.extents is_b.extents (append_cancel_left (codes "extents ") _ _ size.1) in
    let count = split_decimal 10 (length a.history) (length b.history) _ _ (omega arith) is_a.publications is_b.publications (append_cancel_left (codes "publications ") _ _ extents.1) in
    record { uuid = uuid.0; size = size.0; extents = extents.0; rest = count.1 }

pub one_text : (a b : Reported) → IsReported a → IsReported b → reported_text a ≡ reported_text b → a ≡ b
one_text a b is_a is_b e =
    let head = begun a b is_a is_b e in
    let history = publications_tell 1 a.history b.history (from_sessions a) (from_sessions b) is_a.history is_b.history (session_rank a) (session_rank b) head.rest in
    let sessions = sessions_tell 1 a.sessions b.sessions (from_examiners a) (from_examiners b) is_a.sessions is_b.sessions (examiner_rank a) (examiner_rank b) history.1 in
    let high_a : 5 < rank (hash_part a) = omega (arith, hash_rank a) in
    let high_b : 5 < rank (hash_part b) = omega (arith, hash_rank b) in
    let findings = examiners_tell 1 a.findings b.findings (hash_part a) (hash_part b) is_a.findings is_b.findings high_a high_b sessions.1 in
    let hashes = hashes_tell a.linear b.linear a.block_map b.block_map is_a.linear is_b.linear is_a.block_map is_b.block_map findings.1 in
    λ i. record {
      uuid = head.uuid i;
      size = head.size i;
      extents = head.extents i;
      history = history.0 i;
      sessions = sessions.0 i;
      findings = findings.0 i;
      linear = hashes.0 i;
      block_map = hashes.1 i;
    }
