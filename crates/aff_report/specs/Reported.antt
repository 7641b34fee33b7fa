-- What a report says, and its whole text.
use Rattle.std.specs.Prelude.{◌≡◌, ℕ, ◌<◌, ◌^◌, List, ◌++◌, length, replicate, codes, All, Contains}
use Rattle.hex.specs.Hex.{IsBytes}
use Rattle.aff_model.specs.declared.cell.Kind.{Kind}
use Rattle.aff_model.specs.declared.cell.Kind.TheVariants.{Known, Unreadable, Unknown}
use Rattle.aff_model.specs.declared.publication.Place.{Place}
use Rattle.aff_model.specs.declared.publication.Place.TheVariants.{Zero, Chunk, Nothing}
use Rattle.aff_model.specs.History.{Published}
use Rattle.aff_spec.specs.Digests.{digest_line, digest_lines}
use Rattle.aff_spec.specs.Report.{report_text}
use Rattle.aff_hash.specs.declared.kind.Digests.{Digests}
use Rattle.aff_script.specs.Answered.{Answered}
use Rattle.aff_script.specs.declared.answer.RunLine.{RunLine}
use Rattle.aff_report.specs.Examiners.{examiner_lines}
use Rattle.aff_report.specs.Sessions.{session_lines}

-- what a report says: of the volume and the device, the history, what sessions were answered, what examiners found, the hashes
pub record Reported : Type 0 where
  pub uuid : List ℕ
  pub size : ℕ
  pub extents : ℕ
  pub history : List Published
  pub sessions : List (List Answered)
  pub findings : List (List ℕ)
  pub linear : Digests
  pub block_map : List ℕ

-- the text of a report, from `volume` to `blockmap`
abbrev pub reported_text : Reported → List ℕ
reported_text r =
    report_text r.uuid r.size r.extents r.history ++ (session_lines 1 r.sessions ++ (examiner_lines 1 r.findings
    ++ (digest_lines r.linear.md5 r.linear.sha1 r.linear.sha256 r.linear.sha512 ++ digest_line (codes "blockmap") r.block_map)))

-- a number of at most 64 bits
abbrev pub IsWord : ℕ → Type 0
IsWord n = n < 2 ^ 64

-- a text of one line: it has no line feed
abbrev pub IsOneLine : List ℕ → Type 0
IsOneLine text = ¬ (Contains text 10)

-- a digest of so many bytes
pub record IsDigest (size : ℕ) (bytes : List ℕ) : Type 0 where
  pub long : length bytes ≡ size
  pub bytes_are : IsBytes bytes

-- a place whose chunk number, if it has one, is a word
abbrev pub FitsPlace : Place → Type 0
FitsPlace Zero = Unit {0}
FitsPlace (Chunk c) = IsWord c
FitsPlace Nothing = Unit {0}

-- a publication whose numbers are words, and so are the counts of its sectors and places
pub record FitsPublication (p : Published) : Type 0 where
  pub extent : IsWord p.extent
  pub claimant : IsWord p.claimant
  pub bad : All IsWord p.bad
  pub bad_count : IsWord (length p.bad)
  pub places : All FitsPlace p.places
  pub place_count : IsWord (length p.places)

-- the digest that a run has: of 32 bytes where the run is known, else 32 zeros
abbrev pub HasItsSum : Kind → List ℕ → Type 0
HasItsSum Known sum = IsDigest 32 sum
HasItsSum Unreadable sum = sum ≡ replicate 32 0
HasItsSum Unknown sum = sum ≡ replicate 32 0

-- a run of an answer
pub record FitsRun (l : RunLine) : Type 0 where
  pub at : IsWord l.at
  pub len : IsWord l.len
  pub sum : HasItsSum l.kind l.sha256

-- an answer
pub record FitsAnswer (a : Answered) : Type 0 where
  pub at : IsWord a.at
  pub len : IsWord a.len
  pub front : IsWord a.front
  pub runs : All FitsRun a.runs

-- digests of an image, each of its own length
pub record AreDigests (d : Digests) : Type 0 where
  pub md5 : IsDigest 16 d.md5
  pub sha1 : IsDigest 20 d.sha1
  pub sha256 : IsDigest 32 d.sha256
  pub sha512 : IsDigest 64 d.sha512

-- a report as a run makes it: numbers and counts are words, texts have no line feed, digests have their lengths
pub record IsReported (r : Reported) : Type 0 where
  pub uuid : IsOneLine r.uuid
  pub size : IsWord r.size
  pub extents : IsWord r.extents
  pub publications : IsWord (length r.history)
  pub history : All FitsPublication r.history
  pub sessions : All (All FitsAnswer) r.sessions
  pub findings : All IsOneLine r.findings
  pub linear : AreDigests r.linear
  pub block_map : IsDigest 64 r.block_map
