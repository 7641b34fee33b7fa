-- What a put leaves of the book rule.
use Rattle.std.proofs.Common.{◌≡◌, ℕ, ◌+◌, ◌<◌, ◌≤◌, List, [], ◌∷◌, ◌++◌, true, false, length, get_or, map, refl, sym, ap, subst, subst₂, ◌∙◌, inl, inr, ⊎_elim, arith, append-nil}
use Rattle.std.specs.Prelude.{◌⊎◌, Bool, Contains, IsTrue, MatchOption, Option, None, Some, min, slice_get}
use Rattle.std.specs.FinMap.{empty}
use Rattle.std.specs.List.{range_with_len}
use Rattle.std.proofs.Math.Nat.{eq-or-lt_of_le}
use Rattle.std.proofs.lemmas.List.{length-map}
use Rattle.std.proofs.lemmas.Option.{slice_get-get_or}
use Rattle.sha2.specs.Sha256.{sha256}
use Rattle.aff_model.specs.declared.extent.Extent.{Extent}
use Rattle.aff_model.specs.declared.limits.TheConstants.{MAX_CHUNKS, MAX_EXTENT_CHUNKS}
use Rattle.aff_model.specs.declared.publication.Place.{Place}
use Rattle.aff_model.specs.Causes.{Rose}
use Rattle.aff_model.specs.Held.{Held}
use Rattle.aff_model.specs.History.{Part, Published, publication_of}
use Rattle.aff_model.specs.Index.{extent_at, no_extent}
use Rattle.aff_model.specs.Legal.{IsClaimant, numbers_of}
use Rattle.aff_model.specs.Plan.{chunk_count, IsPlan}
use Rattle.aff_model.proofs.Once.{extents_of}
use Rattle.aff_spec.specs.Appends.{Append, applied, Reaches}
use Rattle.aff_spec.specs.Bevvies.{more_appends, written}
use Rattle.aff_spec.specs.Chunks.{stored_chunks}
use Rattle.aff_spec.specs.Names.{stream_urn}
use Rattle.aff_spec.proofs.Appends.{Reaches-whole}
use Rattle.aff_spec.proofs.Members.{Contains-none}
use Rattle.aff_image.specs.Sound.{IsReading, IsSound}
use Rattle.aff_image.specs.Witnesses.{Witnessed, AreWitnessed, IsWitnessed, history_of, kept_of, kept_chunks}
use Rattle.aff_image.proofs.Counts.{few_kept}
use Rattle.aff_image.proofs.Growth.{kept_chunks-push, none_witnessed, push_witnessed, reached-push, reached-still, stored-push}
use Rattle.aff_image.proofs.Pieces.{is_witnessed}
use Rattle.aff_extent.specs.Drafts.{Drafted, IsDraft}
use Rattle.aff_store.specs.declared.claim.Claim.{Claim}
use Rattle.aff_store.specs.Pieces.{ArePlaces, IsPieceOf, chosen_chunks}
use Rattle.aff_store.specs.Written.{Written}
use Rattle.aff_store.proofs.Readings.{is_reading, chunks_are, places_from, are_places}
use Rattle.aff_claim.specs.declared.view.BookView.{BookView}
use Rattle.aff_claim.specs.declared.word.Word.TheVariants.{Claimed}
use Rattle.aff_claim.specs.Steps.{published_if}
use Rattle.aff_snapshot.specs.Lists.{IsNew}
use Rattle.aff_snapshot.specs.Sound.{IsSoundIn}
use Rattle.aff_book.specs.Answers.{found_claim, published_claim}
use Rattle.aff_book.specs.Pages.{Pages, Run}
use Rattle.aff_book.specs.Rule.{AreMadeOf, AreTied, BookRule, HasReached, IsGoing, IsMadeOf}
use Rattle.aff_book.proofs.Making.{made_extents, made_push}
use Rattle.aff_book.proofs.Tying.{held_claim, tied_looked, tied_push}

-- a count that rose since then has risen since before
rose_before : (first before now : ℕ) → first ≤ before → Rose before now → Rose first now
rose_before first before now early rose = omega (arith, early, rose)

rose_later : (first before now : ℕ) → before ≤ now → Rose first before → Rose first now
rose_later first before now later rose = omega (arith, later, rose)

-- all appends were made
pub reached_all : (old new : Held) (appends : List Append) → new ≡ applied old appends → Reaches old appends new
reached_all old new appends is =
    subst (λ v. Reaches old v new) (append-nil appends) (subst (λ h. Reaches old (appends ++ []) h) (sym is) (Reaches-whole old appends []))

-- all appends of some readings were made, and no other
reached_none : (run : Run) (readings : List Witnessed) (held : Held) → AreWitnessed run.case run.plan run.workers readings → held ≡ applied empty (written (stream_urn run.volume) (kept_chunks readings))
    → HasReached run readings held
reached_none run readings held are appended = record {
  more = [];
  one = omega arith;
  are = subst (AreWitnessed run.case run.plan run.workers) (sym (append-nil readings)) are;
  reached = subst (λ rs. Reaches empty (written (stream_urn run.volume) (kept_chunks rs)) held) (sym (append-nil readings)) (reached-still (stream_urn run.volume) readings empty held appended);
}

module _ (run : Run) (tells : Bool) {R : Type 0} (told : R → List ℕ) (b : Pages R) (rule : BookRule run tells told b) where
  -- another seat that is tied
  pub rule_seat : (seat : BookView) → AreTied seat b.pieces → BookRule run tells told (record b { seat = seat })
  rule_seat seat tied = record {
    plan = rule.plan;
    readings = rule.readings;
    are = rule.are;
    made = rule.made;
    tied = tied;
    stream = λ going. rule.stream (record { folder = going.folder; memory = going.memory });
    appended = λ going. rule.appended (record { folder = going.folder; memory = going.memory });
    reached = rule.reached;
    faults = rule.faults;
    stopped = rule.stopped;
  }

  module _ (going : IsGoing b) where
    stream_is : b.stream ≡ record { urn = stream_urn run.volume; chunks = kept_chunks rule.readings; ended = false }
    stream_is = rule.stream going

    pub is_open : b.stream.ended ≡ false
    is_open = ap (λ (s : Written). s.ended) stream_is

    -- there is room for more
    pub has_room : length b.stream.chunks ≤ MAX_CHUNKS
    has_room = omega (arith, ap (λ (s : Written). length s.chunks) stream_is, few_kept run.case run.plan run.workers rule.readings rule.plan rule.are)

    module _ (claim : Claim) (d : Drafted) (bytes : List ℕ) (planned : claim.extent < length run.plan.extents)
        (draft : IsDraft run.case run.plan.block (extent_at run.plan.extents claim.extent) bytes d) where
      abbrev e : Extent
      e = extent_at run.plan.extents claim.extent

      there : slice_get run.plan.extents claim.extent ≡ Some e
      there = slice_get-get_or run.plan.extents claim.extent no_extent planned

      pub few_cuts : length d.cuts ≤ MAX_EXTENT_CHUNKS
      few_cuts = omega (arith, draft.cut.count, draft.read.len, (rule.plan.each claim.extent no_extent planned).short)

      -- a piece of the claim
      module _ (p : Part R) (is : IsPieceOf claim (length b.stream.chunks) bytes d tells told p) where
        chunks : stored_chunks bytes p.places ≡ chosen_chunks bytes d.stored
        chunks = chunks_are run.case run.plan.block e bytes d draft (length b.stream.chunks) p.places is.placed

        bad : p.bad ≡ d.unreadable
        bad = ap (λ (q : Published). q.bad) is.is

        pub same_extent : p.extent ≡ claim.extent
        same_extent = ap (λ (q : Published). q.extent) is.is

        pub same_claimant : p.claimant ≡ claim.claimant
        same_claimant = ap (λ (q : Published). q.claimant) is.is

        count : length p.receipts ≡ length p.digests
        count = is.receipts ∙ sym (ap length is.digests ∙ length-map (chosen_chunks bytes d.stored) sha256 ∙ length-map d.stored _)

        reading : IsReading run.case run.plan.block e bytes p.bad p.places
        reading = subst (λ u. IsReading run.case run.plan.block e bytes u p.places) (sym bad) (is_reading run.case run.plan.block e bytes d draft (length b.stream.chunks) p.places is.placed)

        pub is_sound : IsSoundIn run.case run.plan tells told p
        is_sound = subst (λ o. MatchOption o ⊥ (λ x. IsSound run.case run.plan.block x tells told p)) (sym (ap (slice_get run.plan.extents) same_extent ∙ there)) (record {
          bytes = bytes;
          reading = reading;
          digests = is.digests ∙ ap (map sha256) (sym chunks);
          receipts = count;
          told_chunks = λ t. is.told_chunks t ∙ sym chunks;
        })

      -- an extent that is not published is read
      module _ (free : ¬ (Contains b.seat.out claim.extent)) (most : claim.claimant ≤ run.workers) (swept : claim.claimant ≡ run.workers → IsTrue claim.swept) where
        abbrev reading_of : List Place → Witnessed
        reading_of places = record { published = record { extent = claim.extent; claimant = claim.claimant; swept = claim.swept; bad = d.unreadable; places = places }; bytes = bytes }

        first_is : length b.stream.chunks ≡ length (kept_chunks rule.readings)
        first_is = ap (λ (s : Written). length s.chunks) stream_is

        no_piece : ¬ (Contains (map (λ p. p.extent) b.pieces) claim.extent)
        no_piece has = free (subst (λ l. Contains l claim.extent) rule.tied.out has)

        claimant : (places : List Place) → IsClaimant run.workers (reading_of places).published
        claimant places = ⊎_elim (λ same. inr (same, swept same)) (λ below. inl below) (eq-or-lt_of_le most)

        more_readings : (places : List Place) → ArePlaces (length b.stream.chunks) d.cuts places → AreWitnessed run.case run.plan run.workers (rule.readings ++ reading_of places ∷ [])
        more_readings places placed = push_witnessed run.case run.plan run.workers rule.readings rule.are (reading_of places)
            (is_witnessed run.case run.plan (reading_of places) e there (is_reading run.case run.plan.block e bytes d draft (length b.stream.chunks) places placed))
            (claimant places)
            (λ has. no_piece (subst (λ l. Contains l claim.extent) (made_extents tells told rule.readings b.pieces rule.made) has))
            (placed.numbered ∙ ap (λ n. range_with_len n (length (numbers_of places))) first_is)

        -- what the claim's chunks are, behind those of the stream
        same_appends : (places : List Place) → ArePlaces (length b.stream.chunks) d.cuts places
            → more_appends b.stream.urn b.stream.chunks (chosen_chunks bytes d.stored) ≡ more_appends (stream_urn run.volume) (kept_chunks rule.readings) (kept_of (reading_of places))
        same_appends places placed i =
            more_appends (stream_is i).urn (stream_is i).chunks (sym (chunks_are run.case run.plan.block e bytes d draft (length b.stream.chunks) places placed) i)

        -- the chunks were appended in part
        has_reached : (held : Held) → (IsTrue tells → Reaches b.held (more_appends b.stream.urn b.stream.chunks (chosen_chunks bytes d.stored)) held) → IsTrue tells → HasReached run rule.readings held
        has_reached held reached t =
            let places = places_from (length b.stream.chunks) d.cuts in
            let placed = are_places (length b.stream.chunks) d.cuts in
            record {
              more = reading_of places ∷ [];
              one = omega arith;
              are = more_readings places placed;
              reached = reached-push (stream_urn run.volume) rule.readings (reading_of places) empty b.held held (rule.appended going t) (subst (λ v. Reaches b.held v held) (same_appends places placed) (reached t));
            }

        -- a put after which the book is not going
        pub rule_not_added : (now : Pages R) → now.pieces ≡ b.pieces → now.seat ≡ found_claim claim b.seat → ¬ (IsGoing now)
            → (IsTrue tells → Reaches b.held (more_appends b.stream.urn b.stream.chunks (chosen_chunks bytes d.stored)) now.held) → b.faults ≤ now.faults → (now.stopped ≡ true → Rose b.faults now.faults)
            → BookRule run tells told now
        rule_not_added now pieces seat ended reached later stopped = record {
          plan = rule.plan;
          readings = rule.readings;
          are = rule.are;
          made = subst (AreMadeOf tells told rule.readings) (sym pieces) rule.made;
          tied = subst (λ v. AreTied v now.pieces) (sym seat) (subst (λ ps. AreTied (found_claim claim b.seat) ps) (sym pieces) (tied_looked b.seat b.pieces claim.extent (Claimed claim.claimant) rule.tied));
          stream = λ still. absurd (ended still);
          appended = λ still. absurd (ended still);
          reached = has_reached now.held reached;
          faults = omega (arith, rule.faults, later);
          stopped = λ s. rose_before run.opened b.faults now.faults rule.faults (stopped s);
        }

        -- a put that published
        module _ (p : Part R) (is : IsPieceOf claim (length b.stream.chunks) bytes d tells told p) (now : Pages R) (pieces : now.pieces ≡ b.pieces ++ p ∷ []) (seat : now.seat ≡ published_claim claim b.seat)
            (stream : now.stream ≡ record { urn = b.stream.urn; chunks = b.stream.chunks ++ chosen_chunks bytes d.stored; ended = false })
            (appended : IsTrue tells → now.held ≡ applied b.held (more_appends b.stream.urn b.stream.chunks (chosen_chunks bytes d.stored))) (later : b.faults ≤ now.faults) (still : now.stopped ≡ false) where
          abbrev r : Witnessed
          r = reading_of p.places

          abbrev all : List Witnessed
          all = rule.readings ++ r ∷ []

          is_made : IsMadeOf tells told r p
          is_made = record { is = is.is; digests = is.digests ∙ ap (map sha256) (sym (chunks p is)); receipts = count p is; told_chunks = λ t. is.told_chunks t ∙ sym (chunks p is) }

          tied_now : AreTied now.seat now.pieces
          tied_now =
              let found : BookView = found_claim claim b.seat in
              let held : Contains found.held (p.extent, p.claimant) = subst₂ (λ x k. Contains found.held (x, k)) (sym (same_extent p is)) (sym (same_claimant p is)) (held_claim b.seat claim.extent claim.claimant) in
              let pushed : AreTied (published_claim claim b.seat) (b.pieces ++ p ∷ []) =
              subst₂ (λ x k. AreTied (published_if true found x k) (b.pieces ++ p ∷ [])) (same_extent p is) (same_claimant p is)
              (tied_push found b.pieces p (tied_looked b.seat b.pieces claim.extent (Claimed claim.claimant) rule.tied) held) in
              subst (λ v. AreTied v now.pieces) (sym seat) (subst (λ ps. AreTied (published_claim claim b.seat) ps) (sym pieces) pushed)

          appended_now : IsTrue tells → now.held ≡ applied empty (written (stream_urn run.volume) (kept_chunks all))
          appended_now t = stored-push (stream_urn run.volume) rule.readings r empty b.held now.held (rule.appended going t) (appended t ∙ ap (applied b.held) (same_appends p.places is.placed))

          are_now : AreWitnessed run.case run.plan run.workers all
          are_now = more_readings p.places is.placed

          pub rule_added : BookRule run tells told now
          rule_added = record {
            plan = rule.plan;
            readings = all;
            are = are_now;
            made = subst (AreMadeOf tells told all) (sym pieces) (made_push tells told rule.readings b.pieces r p rule.made is_made);
            tied = tied_now;
            stream = λ _. stream ∙ (λ i. record { urn = (stream_is i).urn; chunks = (stream_is i).chunks ++ sym (chunks p is) i; ended = false })
                ∙ ap (λ c. record { urn = stream_urn run.volume; chunks = c; ended = false }) (sym (kept_chunks-push rule.readings r));
            appended = λ _. appended_now;
            reached = λ t. reached_none run all now.held are_now (appended_now t);
            faults = omega (arith, rule.faults, later);
            stopped = λ s. absurd (cc (s, still));
          }

-- a book that was just opened
pub rule_open : (run : Run) (tells : Bool) {R : Type 0} (told : R → List ℕ) (b : Pages R) → IsPlan run.plan.size run.plan.block run.plan.extents → b.pieces ≡ [] → b.seat.out ≡ []
    → b.stream ≡ record { urn = stream_urn run.volume; chunks = []; ended = false } → (IsTrue tells → b.held ≡ empty) → b.faults ≡ run.opened → b.stopped ≡ false → BookRule run tells told b
rule_open run tells told b plan none out stream held faults still = record {
  plan = plan;
  readings = [];
  are = none_witnessed run.case run.plan run.workers;
  made = subst (AreMadeOf tells told []) (sym none) tt;
  tied = record { out = ap (map (λ p. p.extent)) none ∙ sym out; held = λ p has. absurd (Contains-none p (subst (λ ps. Contains ps p) none has)) };
  stream = λ _. stream;
  appended = λ _ t. held t;
  reached = λ t. reached_none run [] b.held (none_witnessed run.case run.plan run.workers) (held t);
  faults = omega (arith, faults);
  stopped = λ s. absurd (cc (s, still));
}
