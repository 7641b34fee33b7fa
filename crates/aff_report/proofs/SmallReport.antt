-- The small report meets the condition on reports.
use Rattle.std.proofs.Common.{ℕ, zero, suc, ◌<◌, List, [], ◌∷◌, codes, replicate, refl, ◌≢◌, arith}
use Rattle.std.specs.Prelude.{All}
use Rattle.std.proofs.lemmas.List.{length-replicate}
use Rattle.std.proofs.lemmas.List.Elements.{All-contains, All-from_recursion, All-nil}
use Rattle.hex.specs.Hex.{IsBytes}
use Rattle.aff_report.specs.Reported.{FitsAnswer, FitsPlace, FitsPublication, FitsRun, IsDigest, IsOneLine, IsReported, IsWord}
use Rattle.aff_report.specs.Small.{answer, small, swept_extent}
use Rattle.aff_report.proofs.Splits.{Lacks}

bytes_of : (n b : ℕ) → b < 256 → IsBytes (replicate n b)
bytes_of zero b low i = omega arith
bytes_of (suc n) b low zero = low
bytes_of (suc n) b low (suc i) = bytes_of n b low i

digest_of : (n b : ℕ) → b < 256 → IsDigest n (replicate n b)
digest_of n b low = record { long = length-replicate n b; bytes_are = bytes_of n b low }

one_line : (text : List ℕ) → Lacks 10 text → IsOneLine text
one_line text lacks there = All-contains (λ b. b ≢ 10) text 10 lacks there refl

fits_answer : FitsAnswer answer
fits_answer = record {
  at = omega arith;
  len = omega arith;
  front = omega arith;
  runs = All-from_recursion FitsRun answer.runs (
    record { at = omega arith; len = omega arith; sum = digest_of 32 255 (omega arith) },
    (record { at = omega arith; len = omega arith; sum = refl }, (record { at = omega arith; len = omega arith; sum = refl }, tt)),
  );
}

fits_publication : FitsPublication swept_extent
fits_publication = record {
  extent = omega arith;
  claimant = omega arith;
  bad_count = omega arith;
  place_count = omega arith;
  bad = All-from_recursion IsWord swept_extent.bad (omega arith, (omega arith, (omega arith, tt)));
  places = All-from_recursion FitsPlace swept_extent.places (omega arith, (omega arith, (tt, (tt, tt))));
}

-- no letter is a line feed
differs : (b : ℕ) → 10 < b → b ≢ 10
differs b high e = absurd (omega arith)

lacks_u : Lacks 10 (codes "u")
lacks_u = All-from_recursion (λ b. b ≢ 10) (codes "u") (differs 117 (omega arith), tt)

lacks_none : Lacks 10 (codes "none")
lacks_none =
    All-from_recursion (λ b. b ≢ 10) (codes "none") (differs 110 (omega arith), (differs 111 (omega arith), (differs 110 (omega arith), (differs 101 (omega arith), tt))))

pub is_reported : IsReported small
is_reported = record {
  uuid = one_line (codes "u") lacks_u;
  size = omega arith;
  extents = omega arith;
  publications = omega arith;
  history = All-from_recursion FitsPublication small.history (fits_publication, tt);
  sessions = All-from_recursion (All FitsAnswer) small.sessions (All-from_recursion FitsAnswer (answer ∷ []) (fits_answer, tt), (All-nil FitsAnswer, tt));
  findings = All-from_recursion IsOneLine small.findings (one_line (codes "none") lacks_none, tt);
  linear = record { md5 = digest_of 16 0 (omega arith); sha1 = digest_of 20 0 (omega arith); sha256 = digest_of 32 0 (omega arith); sha512 = digest_of 64 0 (omega arith) };
  block_map = digest_of 64 0 (omega arith);
}
