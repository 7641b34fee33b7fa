-- The image that a history makes of a device's content: its cells, its chunks, its bytes.
use Rattle.std.specs.Prelude.{◌≡◌, ℕ, List, length, take, map, All, Option, Some, IfSome}
use Rattle.std.specs.List.{range_with_len}
use Rattle.aff_model.specs.declared.limits.TheConstants.{CHUNK}
use Rattle.aff_model.specs.declared.cell.Cell.{Cell}
use Rattle.aff_model.specs.Content.{Content}
use Rattle.aff_model.specs.Plan.{Planned}
use Rattle.aff_model.specs.History.{Published, last_ones, fresh_ones}
use Rattle.aff_model.specs.Legal.{IsLegal, chunk_numbers}
use Rattle.aff_model.specs.Cells.{cell_of, content_of}
use Rattle.aff_spec.specs.Chunks.{stream_chunks}
use Rattle.aff_spec.specs.Runs.{Spot, history_spot}
use Rattle.aff_spec.specs.Symbols.{fill_of}
use Rattle.aff_spec.specs.Unreadable.{is_unreadable}

-- what an image is made of: what the device holds, the plan, the publications, and the chunks of the stream
pub record Image : Type 0 where
  pub content : Content
  pub plan : Planned
  pub history : List Published
  pub chunks : List (List ℕ)

-- the chunks that the history stores of the content, in the order in which publications add them
abbrev pub stored_of : Image → List (List ℕ)
stored_of m = stream_chunks m.content m.plan.extents (fresh_ones m.history)

-- An image that workers made: its content is the case's, where that is told, and its history is legal over it; it has a chunk
-- for each number of the history, and these are the content's.
pub record IsImageBy (case : Option Content) (workers : ℕ) (m : Image) : Type 0 where
  pub is_case : IfSome case (λ c. m.content ≡ c)
  pub legal : IsLegal (Some m.content) m.plan workers m.history
  pub count : length m.chunks ≡ length (chunk_numbers (fresh_ones m.history))
  pub whole : All (λ chunk. length chunk ≡ CHUNK) m.chunks
  pub stored : m.chunks ≡ stored_of m

-- the image after its first n publications, with the chunks that these added
abbrev pub image_at : Image → ℕ → Image
image_at m n = record m { history = take n m.history; chunks = take (length (chunk_numbers (fresh_ones (take n m.history)))) m.chunks }

-- the cell of a place: the last publication of an extent decides, and no other knows it
abbrev pub image_cell : Image → ℕ → Cell
image_cell m i = cell_of m.content m.plan.extents (last_ones m.history) i

-- the acquired content: unknown outside the plan, unreadable in the sectors of the last lists, else the device's byte
abbrev pub acquired_content : Image → ℕ → Cell
acquired_content m i = content_of m.content m.plan.extents (is_unreadable m.plan.extents (last_ones m.history)) i

-- all bytes of the image, each as it is printed
abbrev pub image_bytes : Image → List ℕ
image_bytes m = map (λ i. fill_of i (acquired_content m i)) (range_with_len 0 m.plan.size)

-- where the bytes of the image are kept
abbrev pub image_spot : Image → ℕ → Option Spot
image_spot m i = history_spot m.plan.extents (last_ones m.history) i
