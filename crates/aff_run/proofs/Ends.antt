-- What a run leaves: of the book rule and of what finishing says, for any number of workers.
use Rattle.std.proofs.Common.{◌≡◌, ℕ, ◌≤◌, ◌<◌, true, false, List, [], ◌∷◌, ◌++◌, length, map, refl, sym, ap, subst, ◌∙◌, arith}
use Rattle.std.specs.Prelude.{Bool, None, Option, Some, All, Contains, IsTrue, MatchOption, slice_get}
use Rattle.std.proofs.lemmas.List.Elements.{All-cons, All-head, All-nil, All-tail}
use Rattle.std.specs.Arc.{arc_value}
use Rattle.std.specs.FinMap.{empty}
use Rattle.std.specs.declared.sync.Arc.{Arc}
use Rattle.aff_model.specs.declared.extent.Extent.{Extent}
use Rattle.aff_model.specs.declared.limits.TheConstants.{MAX_CHUNKS, MAX_SIZE}
use Rattle.aff_model.specs.declared.publication.Place.{Place}
use Rattle.aff_model.specs.declared.publication.Place.TheVariants.{Zero, Chunk, Nothing}
use Rattle.aff_model.specs.Content.{Content}
use Rattle.aff_model.specs.Held.{Held}
use Rattle.aff_model.specs.History.{Part, Published, publication_of}
use Rattle.aff_model.specs.Legal.{IsComplete}
use Rattle.aff_model.specs.Pieces.{published}
use Rattle.aff_model.specs.Plan.{IsPlan, Planned}
use Rattle.aff_model.proofs.Once.{extents_of}
use Rattle.aff_fields.specs.declared.entry.Entry.{Entry}
use Rattle.aff_fields.specs.Entry.{FitsEntry}
use Rattle.aff_map.specs.Mappable.{AreMappable, IsMappable, IsNumbered}
use Rattle.aff_spec.specs.Appends.{applied, Reaches}
use Rattle.aff_spec.specs.Bevvies.{written}
use Rattle.aff_spec.specs.Chunks.{stored_chunks}
use Rattle.sha2.specs.Sha256.{sha256}
use Rattle.aff_spec.specs.Names.{stream_urn}
use Rattle.aff_spec.specs.Runs.{AreGreatestRuns, history_spot}
use Rattle.aff_spec.specs.Walks.{IsWalkable}
use Rattle.aff_spec.specs.Words.{is_uuid}
use Rattle.aff_image.specs.Asked.{Asked}
use Rattle.aff_image.specs.Sound.{AreSound, IsReading, IsSound}
use Rattle.aff_image.specs.Witnesses.{Witnessed, AreWitnessed, IsWitnessed, history_of, kept_chunks}
use Rattle.aff_image.proofs.Counts.{few_kept}
use Rattle.aff_image.proofs.Growth.{none_witnessed, reached-still, stored-none}
use Rattle.aff_image.proofs.Orders.{complete-from_contains}
use Rattle.aff_image.proofs.Shapes.{HasShape, IsBelow, shaped}
use Rattle.aff_store.specs.Written.{Written}
use Rattle.aff_finish.specs.Finishing.{AreHashesOf, HasEnded, ended, finish_appends}
use Rattle.aff_finish.specs.declared.hashes.Hashes.{Hashes}
use Rattle.aff_finish.proofs.Endings.{finished, has_ended, stopped, stopped_behind, walkable}
use Rattle.aff_book.specs.Pages.{Pages, Run}
use Rattle.aff_book.specs.Rule.{AreMadeOf, BookRule, HasReached, IsGoing, IsMadeOf}
use Rattle.aff_book.proofs.Making.{made_extents, made_history}
use Rattle.aff_run.specs.Ends.{AreStored, IsCutOff, IsWhole, asked}

-- a chunk with a low number leaves room in the stream
numbered : (p : Place) → IsBelow MAX_CHUNKS p → IsNumbered p
numbered Zero below = tt
numbered Nothing below = tt
numbered (Chunk c) below = omega (arith, below)

mapped : (e : Extent) (p : Published) → HasShape e p → IsMappable e p
mapped e p shape = record { rising = shape.rising; count = shape.count; numbered = λ k d below. numbered _ (shape.below k d below) }

mapped_one : (o : Option Extent) (p : Published) → MatchOption o ⊥ (λ e. HasShape e p) → MatchOption o ⊥ (λ e. IsMappable e p)
mapped_one None p shape = absurd shape
mapped_one (Some e) p shape = mapped e p shape

-- the publications of shared pieces
pub published_all : {R Z : Type 0} (pieces : List (Arc (Part R) Z)) → map published pieces ≡ map publication_of (map arc_value pieces)
published_all [] = refl
published_all (p ∷ pieces) = ap (λ l. published p ∷ l) (published_all pieces)

module _ (case : Option Content) (tells : Bool) (ask : Asked) (is_plan : IsPlan ask.plan.size ask.plan.block ask.plan.extents) where
  -- the run stopped in its stream
  pub cut_off : (readings : List Witnessed) → AreWitnessed case ask.plan ask.workers readings → (held : Held) → (IsTrue tells → Reaches empty (written (stream_urn ask.uuid) (kept_chunks readings)) held)
      → IsCutOff case tells ask held
  cut_off readings are held reached =
      let m = stopped case tells ask readings is_plan are held reached in
      record { image = m.0; stopped = m.2 }

  -- nothing was stored
  pub cut_off_empty : (held : Held) → (IsTrue tells → held ≡ empty) → IsCutOff case tells ask held
  cut_off_empty held none = cut_off [] (none_witnessed case ask.plan ask.workers) held (λ t. reached-still (stream_urn ask.uuid) [] empty held (stored-none (stream_urn ask.uuid) empty held (none t)))

  -- all extents are stored
  module _ (ok : is_uuid ask.uuid ≡ true) (mid : Held) (w : Written) (history : List Published) (s : AreStored case tells ask mid w history) where
    pub mappable : AreMappable ask.plan.extents history
    mappable = subst (AreMappable ask.plan.extents) s.history_is (record {
      once = s.are.once;
      published = λ k d below. mapped_one _ _ (shaped case ask.plan ask.workers s.readings is_plan s.are k d below);
    })

    chunks_are : w.chunks ≡ kept_chunks s.readings
    chunks_are = ap (λ (v : Written). v.chunks) s.chunks

    pub few_chunks : length w.chunks ≤ MAX_CHUNKS
    few_chunks = omega (arith, ap length chunks_are, few_kept case ask.plan ask.workers s.readings is_plan s.are)

    -- and the run stopped there
    pub cut_off_here : IsCutOff case tells ask mid
    cut_off_here = cut_off s.readings s.are mid (λ t. reached-still (stream_urn ask.uuid) s.readings empty mid (s.appended t))

    module _ (small : ask.plan.size ≤ MAX_SIZE) (all : IsComplete ask.plan.extents history) (entries : List Entry) (runs : AreGreatestRuns (history_spot ask.plan.extents history) entries) (fit : All FitsEntry entries) where
      complete : IsComplete ask.plan.extents (history_of s.readings)
      complete = subst (IsComplete ask.plan.extents) (sym s.history_is) all

      runs_here : AreGreatestRuns (history_spot ask.plan.extents (history_of s.readings)) entries
      runs_here = subst (λ h. AreGreatestRuns (history_spot ask.plan.extents h) entries) (sym s.history_is) runs

      -- what finishing stands on
      pub walks : IsWalkable tells (ended ask.uuid w.chunks entries mid) ask.uuid ask.plan.size entries
      walks =
          subst (λ c. IsWalkable tells (ended ask.uuid c entries mid) ask.uuid ask.plan.size entries) (sym chunks_are)
          (walkable case tells ask s.readings is_plan s.are ok small complete entries mid runs_here fit s.appended)

      pub has_all : IsTrue tells → HasEnded (ended ask.uuid w.chunks entries mid) ask.uuid (length w.chunks) entries
      has_all told =
          subst (λ c. HasEnded (ended ask.uuid c entries mid) ask.uuid (length c) entries) (sym chunks_are)
          (has_ended case tells ask s.readings is_plan s.are ok small complete entries mid runs_here fit s.appended told)

      -- the run stopped behind its stream
      pub cut_off_behind : (new : Held) → (IsTrue tells → Reaches mid (finish_appends ask.uuid ask.plan.size w.chunks entries mid) new) → IsCutOff case tells ask new
      cut_off_behind new reached =
          let m = stopped_behind case tells ask s.readings is_plan s.are ok small complete entries mid runs_here fit s.appended new
          (λ t. subst (λ c. Reaches mid (finish_appends ask.uuid ask.plan.size c entries mid) new) chunks_are (reached t)) in
          record { image = m.0; stopped = m.2 }

      -- the run came to its end
      pub is_whole : (new : Held) (h : Hashes) → (IsTrue tells → new ≡ applied mid (finish_appends ask.uuid ask.plan.size w.chunks entries mid))
          → AreHashesOf tells (ended ask.uuid w.chunks entries mid) ask.uuid ask.plan.size (length w.chunks) h → IsWhole case tells ask new history h
      is_whole new h made of =
          let m = finished case tells ask s.readings is_plan s.are ok small complete entries mid runs_here fit s.appended new h
          (λ t. made t ∙ ap (λ c. applied mid (finish_appends ask.uuid ask.plan.size c entries mid)) chunks_are)
          (subst (λ c. AreHashesOf tells (ended ask.uuid c entries mid) ask.uuid ask.plan.size (length c) h) chunks_are of) in
          record { image = m.0; history_is = m.1 ∙ s.history_is; finished = m.2 }

-- what so many workers of a run are asked for
abbrev pub ask_of : Run → Asked
ask_of run = asked run.volume run.plan run.workers 0

-- how many examiners look on changes nothing of what a folder holds
pub cut_off_for : (case : Option Content) (tells : Bool) (uuid : List ℕ) (plan : Planned) (workers n m : ℕ) (held : Held) → IsCutOff case tells (asked uuid plan workers n) held → IsCutOff case tells (asked uuid plan workers m) held
cut_off_for case tells uuid plan workers n m held is = record { image = is.image; stopped = record { plan = is.stopped.plan; image = is.stopped.image; reached = is.stopped.reached } }

pub whole_for : (case : Option Content) (tells : Bool) (uuid : List ℕ) (plan : Planned) (workers n m : ℕ) (held : Held) (history : List Published) (h : Hashes)
    → IsWhole case tells (asked uuid plan workers n) held history h → IsWhole case tells (asked uuid plan workers m) held history h
whole_for case tells uuid plan workers n m held history h is =
    let f = is.finished in
    record {
      image = is.image;
      history_is = is.history_is;
      finished = record { plan = f.plan; image = f.image; complete = f.complete; bytes = f.bytes; linear = f.linear; digests = f.digests; block_map = f.block_map; whole = f.whole };
    }

-- a book that is not going any more
pub cut_off_book : (run : Run) (tells : Bool) {R : Type 0} (told : R → List ℕ) (b : Pages R) → BookRule run tells told b → IsCutOff run.case tells (ask_of run) b.held
cut_off_book run true told b rule =
    let r : HasReached run rule.readings b.held = rule.reached refl in
    cut_off run.case true (ask_of run) rule.plan (rule.readings ++ r.more) r.are b.held (λ _. r.reached)
cut_off_book run false told b rule = cut_off run.case false (ask_of run) rule.plan rule.readings rule.are b.held (λ t. absurd (cc t))

module _ (run : Run) (tells : Bool) {R : Type 0} (told : R → List ℕ) (b : Pages R) (rule : BookRule run tells told b) where
  -- and one that is
  pub stored_book : IsGoing b → AreStored run.case tells (ask_of run) b.held b.stream (map publication_of b.pieces)
  stored_book going = record {
    readings = rule.readings;
    are = rule.are;
    history_is = made_history tells told rule.readings b.pieces rule.made;
    chunks = rule.stream going;
    appended = λ t. rule.appended going t;
  }

  -- with a piece of each extent its history is complete
  pub complete_book : ((k : ℕ) → k < length run.plan.extents → Contains (map (λ p. p.extent) b.pieces) k) → IsComplete run.plan.extents (map publication_of b.pieces)
  complete_book whole =
      subst (IsComplete run.plan.extents) (made_history tells told rule.readings b.pieces rule.made)
      (complete-from_contains run.plan.extents (history_of rule.readings) (λ k below. subst (λ l. Contains l k) (sym (made_extents tells told rule.readings b.pieces rule.made)) (whole k below)))

-- a piece that was made of a reading is sound
sound_one : (case : Option Content) (plan : Planned) (tells : Bool) {R : Type 0} (told : R → List ℕ) (o : Option Extent) (r : Witnessed) (p : Part R) → IsMadeOf tells told r p
    → MatchOption o ⊥ (λ e. IsReading case plan.block e r.bytes r.published.bad r.published.places) → MatchOption o ⊥ (λ e. IsSound case plan.block e tells told p)
sound_one case plan tells told None r p made is = absurd is
sound_one case plan tells told (Some e) r p made is =
    let bad : p.bad ≡ r.published.bad = ap (λ (q : Published). q.bad) made.is in
    let places : p.places ≡ r.published.places = ap (λ (q : Published). q.places) made.is in
    record {
      bytes = r.bytes;
      reading = subst (λ (l : List ℕ). IsReading case plan.block e r.bytes l p.places) (sym bad) (subst (λ (l : List Place). IsReading case plan.block e r.bytes r.published.bad l) (sym places) is);
      digests = made.digests ∙ ap (λ (l : List Place). map sha256 (stored_chunks r.bytes l)) (sym places);
      receipts = made.receipts;
      told_chunks = λ t. made.told_chunks t ∙ ap (stored_chunks r.bytes) (sym places);
    }

pub sound_made : (case : Option Content) (plan : Planned) (tells : Bool) {R : Type 0} (told : R → List ℕ) (readings : List Witnessed) (pieces : List (Part R)) → AreMadeOf tells told readings pieces → All (IsWitnessed case plan) readings → AreSound case plan tells told pieces
sound_made case plan tells told [] [] made all = All-nil _
sound_made case plan tells told [] (p ∷ pieces) made all = absurd made
sound_made case plan tells told (r ∷ readings) [] made all = absurd made
sound_made case plan tells {R} told (r ∷ readings) (p ∷ pieces) made all =
    let extent : p.extent ≡ r.published.extent = ap (λ (q : Published). q.extent) made.0.is in
    All-cons (λ (p : Part R). MatchOption (slice_get plan.extents p.extent) ⊥ (λ e. IsSound case plan.block e tells told p)) p pieces
    (sound_one case plan tells told (slice_get plan.extents p.extent) r p made.0
    (subst (λ n. MatchOption (slice_get plan.extents n) ⊥ (λ e. IsReading case plan.block e r.bytes r.published.bad r.published.places)) (sym extent) (All-head (IsWitnessed case plan) r readings all)))
    (sound_made case plan tells told readings pieces made.1 (All-tail (IsWitnessed case plan) r readings all))

-- the pieces of a book are sound
pub sound_book : (run : Run) (tells : Bool) {R : Type 0} (told : R → List ℕ) (b : Pages R) → BookRule run tells told b → AreSound run.case run.plan tells told b.pieces
sound_book run tells told b rule = sound_made run.case run.plan tells told rule.readings b.pieces rule.made rule.are.each
