-- An image as readings: each publication witnessed by the bytes that it has of the content.
use Rattle.std.proofs.Common.{◌≡◌, ℕ, ◌+◌, ◌/◌, ◌<◌, true, false, List, [], ◌∷◌, ◌++◌, length, get_or, map, take, drop, refl, sym, ap, subst, ◌∙◌, arith}
use Rattle.std.specs.Prelude.{Bool, Option, None, Some, Contains, IfSome, MatchOption, slice_get, if◌then◌else◌}
use Rattle.std.specs.List.{range_with_len}
use Rattle.std.proofs.Math.Seq.{take-append_seam}
use Rattle.std.proofs.lemmas.List.{take-append-drop, take-map}
use Rattle.std.proofs.lemmas.List.Concat.{flat_map-append}
use Rattle.std.proofs.lemmas.List.Elements.{All-map}
use Rattle.std.proofs.lemmas.List.FromFn.{length-map-range_with_len, get_or-map-range_with_len}
use Rattle.aff_model.specs.declared.extent.Extent.{Extent}
use Rattle.aff_model.specs.Cells.{is_bad_at, cell_of, content_of}
use Rattle.aff_model.specs.Content.{Content}
use Rattle.aff_model.specs.History.{Published, last_ones, fresh_ones}
use Rattle.aff_model.specs.Legal.{IsPublished, IsClaimant, IsLegal, IsComplete, AreCounted, chunk_numbers}
use Rattle.aff_model.specs.Plan.{Planned, IsExtent, IsPlan}
use Rattle.aff_model.proofs.Once.{AreOnce, once-from_readings, fresh_ones-once}
use Rattle.aff_model.proofs.Sectors.{IsSectored, sectored}
use Rattle.aff_spec.specs.Chunks.{published_bytes, stream_chunks}
use Rattle.aff_spec.specs.Runs.{history_spot}
use Rattle.aff_spec.specs.Symbols.{fill_of}
use Rattle.aff_spec.specs.Unreadable.{is_unreadable}
use Rattle.aff_spec.proofs.Streams.{ReadsAs}
use Rattle.aff_image.specs.Image.{Image, IsImageBy, acquired_content, image_at, image_bytes, image_cell, image_spot}
use Rattle.aff_image.specs.Sound.{IsReading}
use Rattle.aff_image.specs.Witnesses.{Witnessed, AreWitnessed, IsWitnessed, history_of, kept_of, kept_chunks}
use Rattle.aff_image.proofs.Cells.{CellReads}
use Rattle.aff_image.proofs.Growth.{take_witnessed}
use Rattle.aff_image.proofs.Kept.{length-kept_chunks, kept_whole}
use Rattle.aff_image.proofs.Legals.{Decides-bad, place_witnessed, legal_history, kept_is}
use Rattle.aff_image.proofs.Rows.{all_at}
use Rattle.aff_image.proofs.Spots.{cell_acquired, cell_bad, cell_reads}

-- what a publication has of a content is a reading of its extent
module _ (c : Content) (size block : ℕ) (e : Extent) (p : Published) (is : IsSectored size e) (one : IsPublished (Some c) block e p) where
  byte : ℕ → ℕ
  byte i = if is_bad_at e p i then 0 else c.byte i

  length-bytes : length (published_bytes c e p) ≡ e.len
  length-bytes = length-map-range_with_len (λ i. if is_bad_at e p i then 0 else c.byte i) e.at e.len

  byte_at : (k : ℕ) → k < length (published_bytes c e p) → get_or (published_bytes c e p) k 0 ≡ (if is_bad_at e p (e.at + k) then 0 else c.byte (e.at + k))
  byte_at k below = get_or-map-range_with_len (λ i. if is_bad_at e p i then 0 else c.byte i) e.at e.len k (e.at + k) 0 (omega (arith, below, length-bytes)) refl

  good : (k : ℕ) (b : Bool) → is_bad_at e p (e.at + k) ≡ b → ¬ (Contains p.bad (k / 512)) → b ≡ false
  good k true bad read = absurd (read ((Decides-bad e p k is.at_whole).0 bad))
  good k false fine read = refl

  known : (k : ℕ) → k < length (published_bytes c e p) → ¬ (Contains p.bad (k / 512)) → get_or (published_bytes c e p) k 0 ≡ c.byte (e.at + k)
  known k below read = byte_at k below ∙ ap (λ b. if b then 0 else c.byte (e.at + k)) (good k (is_bad_at e p (e.at + k)) refl read)

  pub reading_published : IsReading (Some c) block e (published_bytes c e p) p.bad p.places
  reading_published = record {
    len = length-bytes;
    fits = one.fits;
    known = known;
    zero = λ k below has. byte_at k below ∙ ap (λ b. if b then 0 else c.byte (e.at + k)) ((Decides-bad e p k is.at_whole).1 has);
    count = one.count;
    placed = λ j d below. place_witnessed c size e (published_bytes c e p) p.bad is length-bytes known j (get_or p.places j d) (one.places j d below);
  }

-- a publication with the bytes that it has of a content
abbrev bytes_by : Content → Option Extent → Published → List ℕ
bytes_by c None p = []
bytes_by c (Some e) p = published_bytes c e p

abbrev witness_of : Content → List Extent → Published → Witnessed
witness_of c extents p = record { published = p; bytes = bytes_by c (slice_get extents p.extent) p }

abbrev readings_in : Content → List Extent → List Published → List Witnessed
readings_in c extents history = map (witness_of c extents) history

same_history : (c : Content) (extents : List Extent) (history : List Published) → history_of (readings_in c extents history) ≡ history
same_history c extents [] = refl
same_history c extents (p ∷ history) = ap (λ v. p ∷ v) (same_history c extents history)

module _ (c : Content) (plan : Planned) (is_plan : IsPlan plan.size plan.block plan.extents) where
  witness_by : (p : Published) (o : Option Extent) → slice_get plan.extents p.extent ≡ o → MatchOption o ⊥ (λ e. IsPublished (Some c) plan.block e p)
      → MatchOption o ⊥ (λ e. IsReading (Some c) plan.block e (bytes_by c o p) p.bad p.places)
  witness_by p None at one = one
  witness_by p (Some e) at one =
      reading_published c plan.size plan.block e p (sectored plan.size plan.block e is_plan.is_block (all_at (IsExtent plan.size plan.block) plan.extents p.extent e is_plan.each at)) one

  pub witnessed_history : (workers : ℕ) (history : List Published) → IsLegal (Some c) plan workers history → AreWitnessed (Some c) plan workers (readings_in c plan.extents history)
  witnessed_history workers history legal =
      let once : AreOnce history = once-from_readings history legal.readings in
      record {
        each = All-map (IsWitnessed (Some c) plan) (witness_of c plan.extents) history (λ k d below. witness_by (get_or history k d) (slice_get plan.extents (get_or history k d).extent) refl (legal.published k d below));
        claimants = All-map (λ r. IsClaimant workers r.published) (witness_of c plan.extents) history legal.claimants;
        once = subst AreOnce (sym (same_history c plan.extents history)) once;
        numbered = subst (λ h. AreCounted (chunk_numbers h)) (sym (same_history c plan.extents history)) (subst (λ h. AreCounted (chunk_numbers h)) (fresh_ones-once history once) legal.numbered);
      }

-- readings of which an image is the image
pub record HasReadings (workers : ℕ) (m : Image) : Type 0 where
  pub readings : List Witnessed
  pub are : AreWitnessed (Some m.content) m.plan workers readings
  pub history : history_of readings ≡ m.history
  pub chunks : kept_chunks readings ≡ m.chunks

pub has_readings : (case : Option Content) (workers : ℕ) (m : Image) → IsPlan m.plan.size m.plan.block m.plan.extents → IsImageBy case workers m → HasReadings workers m
has_readings case workers m is_plan image =
    let readings = readings_in m.content m.plan.extents m.history in
    let are = witnessed_history m.content m.plan is_plan workers m.history image.legal in
    let same = same_history m.content m.plan.extents m.history in
    record {
      readings = readings;
      are = are;
      history = same;
      chunks = sym (kept_is m.content m.plan workers readings is_plan are) ∙ ap (λ h. stream_chunks m.content m.plan.extents (fresh_ones h)) same ∙ sym image.stored;
    }

-- an image that workers made
module _ (case : Option Content) (workers : ℕ) (m : Image) (is_plan : IsPlan m.plan.size m.plan.block m.plan.extents) (image : IsImageBy case workers m) where
  -- where its chunks stand in a stream, the spot of each place reads as its cell
  pub image_reads : (stream : ℕ → Option ℕ) (i : ℕ) → ReadsAs stream m.chunks → CellReads stream i (image_spot m i) (image_cell m i)
  image_reads stream i reads =
      let has = has_readings case workers m is_plan image in
      subst (λ h. CellReads stream i (history_spot m.plan.extents (last_ones h) i) (cell_of m.content m.plan.extents (last_ones h) i)) has.history
      (cell_reads m.content m.plan workers has.readings is_plan has.are stream i (subst (ReadsAs stream) (sym has.chunks) reads))

  -- and where its history is complete, that is what was acquired
  pub image_acquired : (i : ℕ) → IsComplete m.plan.extents m.history → image_cell m i ≡ acquired_content m i
  image_acquired i complete =
      let has = has_readings case workers m is_plan image in
      subst (λ h. cell_of m.content m.plan.extents (last_ones h) i ≡ content_of m.content m.plan.extents (is_unreadable m.plan.extents (last_ones h)) i) has.history
      (cell_acquired m.content m.plan workers has.readings is_plan has.are i (subst (IsComplete m.plan.extents) (sym has.history) complete))

  pub image_reads-acquired : (stream : ℕ → Option ℕ) (i : ℕ) → IsComplete m.plan.extents m.history → ReadsAs stream m.chunks → CellReads stream i (image_spot m i) (acquired_content m i)
  image_reads-acquired stream i complete reads = subst (CellReads stream i (image_spot m i)) (image_acquired i complete) (image_reads stream i reads)

  -- which is the content with its bad sectors unreadable, where all weak ones are bad
  pub image_bad : (i : ℕ) → ((s : ℕ) → m.content.weak s ≡ m.content.bad s) → IsComplete m.plan.extents m.history → acquired_content m i ≡ content_of m.content m.plan.extents m.content.bad i
  image_bad i same complete =
      let has = has_readings case workers m is_plan image in
      sym (image_acquired i complete)
      ∙ ap (λ h. cell_of m.content m.plan.extents (last_ones h) i) (sym has.history)
      ∙ cell_bad m.content m.plan workers has.readings is_plan has.are same i (subst (IsComplete m.plan.extents) (sym has.history) complete)

-- so two complete images of one content and plan have the same bytes, whoever read what and when
pub same_bytes : (case other : Option Content) (workers others : ℕ) (m n : Image) → IsPlan m.plan.size m.plan.block m.plan.extents → IsImageBy case workers m → IsImageBy other others n
    → m.content ≡ n.content → m.plan ≡ n.plan → ((s : ℕ) → m.content.weak s ≡ m.content.bad s) → IsComplete m.plan.extents m.history → IsComplete n.plan.extents n.history
    → image_bytes m ≡ image_bytes n
same_bytes case other workers others m n is_plan by_some by_others one_content one_plan same complete also =
    λ j. map (λ i. fill_of i (alike i j)) (range_with_len 0 ((one_plan j).size))
  where
    alike : (i : ℕ) → acquired_content m i ≡ acquired_content n i
    alike i =
        image_bad case workers m is_plan by_some i same complete
        ∙ (λ j. content_of (one_content j) ((one_plan j).extents) ((one_content j).bad) i)
        ∙ sym (image_bad other others n (subst (λ (p : Planned). IsPlan p.size p.block p.extents) one_plan is_plan) by_others i (subst (λ (c : Content). (s : ℕ) → c.weak s ≡ c.bad s) one_content same) also)

-- the image of readings
abbrev pub image_of : Content → Planned → List Witnessed → Image
image_of c plan readings = record { content = c; plan = plan; history = history_of readings; chunks = kept_chunks readings }

pub is_image : (case : Option Content) (c : Content) (plan : Planned) (workers : ℕ) (readings : List Witnessed) → IsPlan plan.size plan.block plan.extents → IfSome case (λ d. c ≡ d)
    → AreWitnessed (Some c) plan workers readings → IsImageBy case workers (image_of c plan readings)
is_image case c plan workers readings is_plan is_case are = record {
  is_case = is_case;
  legal = legal_history c plan workers readings is_plan are;
  count = length-kept_chunks readings ∙ ap (λ h. length (chunk_numbers h)) (sym (fresh_ones-once (history_of readings) are.once));
  whole = kept_whole readings;
  stored = sym (kept_is c plan workers readings is_plan are);
}

-- the image after some first publications is an image by the same workers
pub image_at-is : (case : Option Content) (workers : ℕ) (m : Image) (n : ℕ) → IsPlan m.plan.size m.plan.block m.plan.extents → IsImageBy case workers m → IsImageBy case workers (image_at m n)
image_at-is case workers m n is_plan image =
    subst (λ h. IsImageBy case workers (record m { history = h; chunks = take (length (chunk_numbers (fresh_ones h))) m.chunks })) same
    (subst (λ v. IsImageBy case workers (record m { history = history_of first; chunks = v })) (sym cut)
    (is_image case m.content m.plan workers first is_plan image.is_case are))
  where
    has : HasReadings workers m
    has = has_readings case workers m is_plan image

    first : List Witnessed
    first = take n has.readings

    are : AreWitnessed (Some m.content) m.plan workers first
    are = take_witnessed (Some m.content) m.plan workers has.readings has.are n

    same : history_of first ≡ take n m.history
    same = sym (take-map (λ r. r.published) n has.readings) ∙ ap (take n) has.history

    parts : m.chunks ≡ kept_chunks first ++ kept_chunks (drop n has.readings)
    parts = sym has.chunks ∙ ap kept_chunks (sym (take-append-drop n has.readings)) ∙ flat_map-append kept_of first (drop n has.readings)

    count : length (chunk_numbers (fresh_ones (history_of first))) ≡ length (kept_chunks first)
    count = ap (λ h. length (chunk_numbers h)) (fresh_ones-once (history_of first) are.once) ∙ sym (length-kept_chunks first)

    cut : take (length (chunk_numbers (fresh_ones (history_of first)))) m.chunks ≡ kept_chunks first
    cut = (λ i. take (count i) (parts i)) ∙ take-append_seam (kept_chunks first) (kept_chunks (drop n has.readings))
