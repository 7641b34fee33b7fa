-- Bytes that are read piece by piece.
use Rattle.std.proofs.Common.{◌≡◌, ◌≢◌, ℕ, ◌+◌, ◌-◌, ◌*◌, ◌/◌, ◌%◌, ◌<◌, ◌≤◌, List, ◌++◌, length, take, get_or, refl, sym, ap, subst, ◌∙◌, arith, inl, inr}
use Rattle.std.specs.Prelude.{Option, None, Some, IfSome, slice_get}
use Rattle.std.proofs.Math.ListN.{get_or-append}
use Rattle.std.proofs.lemmas.Bool.{cases_lt}
use Rattle.std.proofs.lemmas.List.{get_or-take, get_or-append-add, length-take-le}
use borrow.Rule.Slice.PartMut.{put_mid, post_of}
use Rattle.aff_model.specs.Held.{Held}
use Rattle.aff_hash.specs.declared.kind.Hash.TheVariants.{Sha256}
use Rattle.aff_info.specs.declared.info.Info.{Info}
use Rattle.aff_map.specs.declared.map.Spot.{Spot}
use Rattle.aff_map.specs.declared.target.Target.{Target}
use Rattle.aff_map.specs.declared.target.Target.TheVariants.{Stored, Zero, Unknown, Unreadable}
use Rattle.aff_map.specs.Finding.{GoesOn, LeadsTo, ReachesInto}
use Rattle.aff_map.specs.Mapped.{Mapped, target_end}
use Rattle.aff_map.specs.Symbol.{IsSymbolic, symbol_of}
use Rattle.aff_spec.specs.Runs.{lookup}
use Rattle.aff_spec.specs.Streams.{chunk_of, stream_byte}
use Rattle.aff_spec.specs.Volumes.{Volume, volume_byte}
use Rattle.aff_volume.specs.declared.error.VolumeReadError.{VolumeReadError}
use Rattle.aff_volume.specs.declared.error.VolumeReadError.TheVariants.{Failed, Damaged, Memory}
use Rattle.aff_volume.specs.Chunks.{IsChunkError}
use Rattle.aff_volume.specs.Image.{Differs, IsRecorded, IsSoundAt, named_by, stored_offset}
use Rattle.aff_volume.specs.Opened.{IsFit}
use Rattle.aff_volume.specs.Reading.{AreBytes, AreFirst, IsMapped, IsReadError}
use Rattle.aff_volume.proofs.Lines.{byte_of, offset_of}
use Rattle.aff_volume.proofs.Spots.{run_byte, run_offset}

-- ---- the whole piece by piece

put_before : (filled n : ℕ) (out new : List ℕ) (k : ℕ) → filled ≤ length out → k < filled → get_or (put_mid filled n out new) k 0 ≡ get_or out k 0
put_before filled n out new k low before =
    get_or-append (take filled out) (new ++ post_of filled n out) 0 k (omega (arith, before, length-take-le filled out low)) ∙ get_or-take filled out k 0 before

put_in : (filled n : ℕ) (out new : List ℕ) (j : ℕ) → filled ≤ length out → j < length new → get_or (put_mid filled n out new) (filled + j) 0 ≡ get_or new j 0
put_in filled n out new j low in_new =
    ap (λ m. get_or (put_mid filled n out new) (m + j) 0) (sym (length-take-le filled out low))
    ∙ get_or-append-add (take filled out) (new ++ post_of filled n out) j 0
    ∙ get_or-append new (post_of filled n out) 0 j in_new

module _ (held : Held) (v : Volume) (at filled n count : ℕ) (out new : List ℕ) (low : filled ≤ length out) (few : count ≤ length new) where
  -- what a first piece has, and behind it the next one
  pub more_are : ((k : ℕ) → k < filled → volume_byte held v (at + k) ≡ Some (get_or out k 0)) → ((k : ℕ) → k < count → volume_byte held v (at + filled + k) ≡ Some (get_or new k 0))
      → (k : ℕ) → k < filled + count → volume_byte held v (at + k) ≡ Some (get_or (put_mid filled n out new) k 0)
  more_are before piece k below = elim (cases_lt k filled) [
    | inl earlier ↦ before k earlier ∙ ap Some (sym (put_before filled n out new k low earlier))
    | inr here ↦
        let place : k ≡ filled + (k - filled) = omega (arith, here) in
        let byte : at + k ≡ at + filled + (k - filled) = omega (arith, here) in
        ap (volume_byte held v) byte ∙ piece (k - filled) (omega (arith, here, below))
        ∙ ap Some (sym (put_in filled n out new (k - filled) low (omega (arith, here, below, few))) ∙ ap (λ m. get_or (put_mid filled n out new) m 0) (sym place))
  ]

  pub more_bytes : AreFirst held v at filled out → AreFirst held v (at + filled) count new → AreFirst held v at (filled + count) (put_mid filled n out new)
  more_bytes before piece = record {
    are = more_are before.are piece.are;
    sound = λ k below. elim (cases_lt k filled) [
      | inl earlier ↦ before.sound k earlier
      | inr here ↦
          let byte : at + k ≡ at + filled + (k - filled) = omega (arith, here) in
          subst (IsSoundAt held v) (sym byte) (piece.sound (k - filled) (omega (arith, here, below)))
    ];
  }

pub no_bytes : (held : Held) (v : Volume) (at : ℕ) (out : List ℕ) → AreFirst held v at 0 out
no_bytes held v at out = record { are = λ k low. absurd (omega (arith, low)); sound = λ k low. absurd (omega (arith, low)) }

pub all_bytes : (held : Held) (v : Volume) (at filled : ℕ) (out : List ℕ) → length out ≤ filled → AreFirst held v at filled out → AreBytes held v at out
all_bytes held v at filled out done first = record { are = λ k low. first.are k (omega (arith, low, done)); sound = λ k low. first.sound k (omega (arith, low, done)) }

pub later_error : (held : Held) (v : Volume) (at filled n : ℕ) (out : List ℕ) (e : VolumeReadError) → filled < n → AreFirst held v at filled out → IsReadError held v (at + filled) 1 e → IsReadError held v at n e
later_error held v at filled n out Failed low first h = tt
later_error held v at filled n out Memory low first h = tt
later_error held v at filled n out (Damaged chunk recorded found) low first h =
    let number : h.number ≡ 0 = omega (arith, h.there) in
    record {
      number = filled;
      there = low;
      before = first.sound;
      offset = h.offset;
      stored = ap (λ k. stored_offset held v k) (omega (arith, number)) ∙ h.stored;
      chunk_is = h.chunk_is;
      differs = h.differs;
    }

-- ---- a piece

module _ (held : Held) (info : Info) (map : Mapped) (fit : IsFit info) (is : IsMapped held info map) (at : ℕ) (s : Spot) (leads : LeadsTo map at (lookup map.entries at) s) (goes : GoesOn map.entries at s.len) where
  -- of symbols
  symbol_byte : (t : Target) (offset : ℕ) → IsSymbolic t → byte_of held info.stream t offset ≡ Some (symbol_of t offset)
  symbol_byte Stored offset h = absurd h
  symbol_byte Zero offset h = refl
  symbol_byte Unknown offset h = refl
  symbol_byte Unreadable offset h = refl

  symbol_offset : (t : Target) (offset : ℕ) → IsSymbolic t → offset_of t offset ≡ None
  symbol_offset Stored offset h = absurd h
  symbol_offset Zero offset h = refl
  symbol_offset Unknown offset h = refl
  symbol_offset Unreadable offset h = refl

  sound_none : (i : ℕ) → stored_offset held (named_by info) i ≡ None → IsSoundAt held (named_by info) i
  sound_none i none = subst (λ o. IfSome o (λ j. IsRecorded Sha256 held info.stream (j / 32768))) (sym none) tt

  pub symbol_piece : (count : ℕ) (out : List ℕ) → IsSymbolic s.target → count ≤ s.len → ((k : ℕ) → k < count → get_or out k 0 ≡ symbol_of s.target (s.target_at + k)) → AreFirst held (named_by info) at count out
  symbol_piece count out symbolic few bytes = record {
    are = λ k low.
        run_byte held info map fit is at s goes leads k (omega (arith, low, few)) ∙ symbol_byte s.target (s.target_at + k) symbolic ∙ ap Some (sym (bytes k low));
    sound = λ k low. sound_none (at + k) (run_offset held info map fit is at s goes leads k (omega (arith, low, few)) ∙ symbol_offset s.target (s.target_at + k) symbolic);
  }

  -- of stored bytes, inside one chunk
  module _ (stored : s.target ≡ Stored) where
    offset_is : (k : ℕ) → k < s.len → stored_offset held (named_by info) (at + k) ≡ Some (s.target_at + k)
    offset_is k low = run_offset held info map fit is at s goes leads k low ∙ ap (λ t. offset_of t (s.target_at + k)) stored

    pub stored_piece : (count : ℕ) (out : List ℕ) → count ≤ s.len → s.target_at % 32768 + count ≤ 32768 → ((k : ℕ) → k < count → stream_byte held info.stream (s.target_at + k) ≡ Some (get_or out k 0))
        → IsRecorded Sha256 held info.stream (s.target_at / 32768) → AreFirst held (named_by info) at count out
    stored_piece count out few inside bytes sound = record {
      are = λ k low. run_byte held info map fit is at s goes leads k (omega (arith, low, few)) ∙ ap (λ t. byte_of held info.stream t (s.target_at + k)) stored ∙ bytes k low;
      sound = λ k low.
          let chunk : (s.target_at + k) / 32768 ≡ s.target_at / 32768 = omega (arith, inside, low) in
          subst (λ o. IfSome o (λ j. IsRecorded Sha256 held info.stream (j / 32768))) (sym (offset_is k (omega (arith, low, few))))
          (subst (IsRecorded Sha256 held info.stream) (sym chunk) sound);
    }

    pub stored_byte : (k b : ℕ) → k < s.len → stream_byte held info.stream (s.target_at + k) ≡ Some b → volume_byte held (named_by info) (at + k) ≡ Some b
    stored_byte k b low byte = run_byte held info map fit is at s goes leads k low ∙ ap (λ t. byte_of held info.stream t (s.target_at + k)) stored ∙ byte

    pub stored_error : (e : VolumeReadError) → 0 < s.len → IsChunkError held info.stream (s.target_at / 32768) e → IsReadError held (named_by info) at 1 e
    stored_error Failed some h = tt
    stored_error Memory some h = tt
    stored_error (Damaged chunk recorded found) some h = record {
      number = 0;
      there = omega arith;
      before = λ k low. absurd (omega (arith, low));
      offset = s.target_at + 0;
      stored = offset_is 0 some;
      chunk_is = h.0 ∙ ap (λ n. n / 32768) (omega arith);
      differs = subst (λ c. Differs Sha256 held info.stream c recorded found) (sym h.0) h.1;
    }

-- a byte of a part of a chunk is the stream's
pub part_byte : (held : Held) (stream : List ℕ) (number skip k b : ℕ) → skip + k < 32768 → slice_get (chunk_of held stream number) (skip + k) ≡ Some b → stream_byte held stream (32768 * number + skip + k) ≡ Some b
part_byte held stream number skip k b low is =
    let chunk : (32768 * number + skip + k) / 32768 ≡ number = omega (arith, low) in
    let place : (32768 * number + skip + k) % 32768 ≡ skip + k = omega (arith, low) in
    (λ i. slice_get (chunk_of held stream (chunk i)) (place i)) ∙ is

-- ---- a run of a symbolic stream

pub symbolic_by : (t : Target) → t ≢ Stored → IsSymbolic t
symbolic_by Stored h = absurd (h refl)
symbolic_by Zero h = tt
symbolic_by Unknown h = tt
symbolic_by Unreadable h = tt

symbolic_end : (n : ℕ) (t : Target) → IsSymbolic t → target_end n t ≡ 18446744073709551616
symbolic_end n Stored h = absurd h
symbolic_end n Zero h = refl
symbolic_end n Unknown h = refl
symbolic_end n Unreadable h = refl

-- it ends at a place of 64 bits
pub symbolic_fits : (m : Mapped) (at : ℕ) (o : Option (ℕ × ℕ)) (s : Spot) → LeadsTo m at o s → ReachesInto m o s → IsSymbolic s.target → at + s.len ≤ 17592186044416 → s.target_at + s.len ≤ 18446744073709551616
symbolic_fits m at None s leads reaches symbolic inside = omega (arith, leads.1, inside)
symbolic_fits m at (Some found) s leads reaches symbolic inside = omega (arith, reaches, symbolic_end m.stream_size s.target symbolic)
