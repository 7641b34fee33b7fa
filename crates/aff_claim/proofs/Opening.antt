-- A new table meets the rule, and so do the words of one that is closed.
use Rattle.std.proofs.Common.{◌≡◌, ℕ, ◌+◌, ◌<◌, ◌≤◌, true, true≢false, List, [], ◌∷◌, length, refl, sym, ap, ◌∙◌, subst, arith, zero, suc, slice_index, slice_index_or}
use mathlib.Core.Option.{some, some-injective, some-ne-none}
use lib.ListN.{get_elem?}
use Rattle.std.proofs.lemmas.List.{length-replicate}
use Rattle.std.proofs.lemmas.List.Elements.{All-from_get_or}
use Rattle.std.proofs.lemmas.Nat.Bits.{bit_at-zero}
use Rattle.std.specs.Int.{bit_at}
use Rattle.atomic_table.specs.Table.{opening, Seen, Final}
use Rattle.aff_claim.specs.declared.view.Limits.{Limits}
use Rattle.aff_claim.specs.declared.view.View.{View}
use Rattle.aff_claim.specs.declared.word.Word.{Word}
use Rattle.aff_claim.specs.declared.word.Word.TheVariants.{Free}
use Rattle.aff_claim.specs.Demands.{HasAsked}
use Rattle.aff_claim.specs.Rule.{AreClaims, IsClaimTable, IsSeat, MayStand, AreLastWords}
use Rattle.aff_claim.specs.Views.{first_view}
use Rattle.aff_claim.specs.Words.{Names, IsPublished, word_at, word_of, word_count, claim_place, demand_place, demands_at, drawn_count}
use Rattle.aff_claim.proofs.Kept.{booked_kept, names_same, published_same}
use Rattle.aff_claim.proofs.ListLaws.{free_words, none_in, once_none, zeros, read_at}

one_view : {A : Type 0} (v d : A) (j : ℕ) → get_elem? (v ∷ []) j ≡ some d → (j ≡ 0) × (v ≡ d)
one_view v d zero e = (refl, some-injective v d e)
one_view v d (suc j) e = absurd (some-ne-none d (sym e))

-- every word of a new table is free
all_free : (m e : ℕ) → word_at (free_words m) e ≡ Free
all_free m e = ap word_of (zeros m (e + 1))

claims_open : {S : Type 0} (limits : Limits) (m : ℕ) → m ≡ word_count limits.extents → AreClaims {S = S} limits (opening (free_words m) [] (first_view limits))
claims_open limits m wide = record {
  desk = 0;
  owner = λ k. 0;
  width = length-replicate m 0 ∙ wide;
  words = λ e l k named. absurd (subst (λ w. Names w k) (all_free m e) named);
  seats = λ j v at. let one = one_view (first_view limits) v j at in
      subst (λ (x : ℕ × View). IsSeat limits (drawn_count (free_words m)) (word_at (free_words m)) (λ k. 0) 0 x.0 x.1) (λ i. (sym one.0 i, one.1 i)) first;
}
  where
    first : IsSeat limits (drawn_count (free_words m)) (word_at (free_words m)) (λ k. 0) 0 0 (first_view limits)
    first = record {
      extents = refl;
      workers = refl;
      a_book = λ _. (
        refl,
        record {
          made = zeros m 0;
          spare = λ k e. absurd (cc);
          booked = record {
            out = λ e. (λ c. absurd (none_in e c), λ h. absurd (subst IsPublished (all_free m e) h.1));
            once = once_none;
            held = λ e k c. absurd (none_in (e, k) c);
          };
        },
      );
      a_pass = λ h. absurd (true≢false h);
    }

-- no extent of a new table is asked for
pub opens : {S : Type 0} (limits : Limits) (m : ℕ) → m ≡ word_count limits.extents → IsClaimTable {S = S} limits (opening (free_words m) [] (first_view limits))
opens limits m wide = record {
  claims = claims_open limits m wide;
  demands = record {
    planned = λ d l i h. let none = subst (λ x. bit_at x i ≡ 0) (sym (zeros m (demand_place limits.extents d))) (bit_at-zero i) in absurd (omega arith);
    seats = λ j v at. let one = one_view (first_view limits) v j at in
        subst (λ (u : View). HasAsked limits.extents (demands_at limits.extents (free_words m)) u.pass) one.1 record {
          raised = λ e c. absurd (none_in e c);
          looked = λ d b c. absurd (none_in (d, b) c);
        };
  };
}

-- the numbers that the words of a closed table name
pub last_number : {S : Type 0} (limits : Limits) (words : List ℕ) (slots : List S) (id : ℕ) (v : View) → Final (Seen (IsClaimTable limits) id v) words slots
    → (e k : ℕ) → e < limits.extents → Names (word_at words e) k → k ≤ limits.workers
last_number limits words slots id v last e k l named =
    let s = last.0 in
    let r = last.1.0 in
    (r.claims.words e l k (subst (λ ws. Names (word_at ws e) k) (sym last.2) named)).0

-- the words of a table that is closed with its book's seat
pub closes : {S : Type 0} (limits : Limits) (words : List ℕ) (slots : List S) (id : ℕ) (v : View) (ended : List Word) → v.is_book ≡ true → Final (Seen (IsClaimTable limits) id v) words slots
    → length ended ≡ limits.extents → ((e : ℕ) → e < limits.extents → slice_index_or ended e Free ≡ word_at words e) → AreLastWords limits.extents limits.workers v.book ended
closes limits words slots id v ended is_book last count each =
    let s = last.0 in
    let r = last.1.0 in
    let own = ((r.claims.seats id v last.1.1).a_book is_book).1 in
    let same : (e : ℕ) → e < limits.extents → slice_index_or ended e Free ≡ word_at s.words e = (λ e l. each e l ∙ ap (λ ws. word_at ws e) (sym last.2)) in record {
      count = count;
      each = All-from_get_or (MayStand limits.workers v.book.made) ended Free (λ e l. let inside : e < limits.extents = omega arith in
          subst (MayStand limits.workers v.book.made) (sym (same e inside)) (subst (λ c. MayStand limits.workers c (word_at s.words e)) own.made (r.claims.words e inside)));
      booked = booked_kept limits (word_at s.words) (λ e. slice_index_or ended e Free) v.book
          (λ f l. published_same (word_at s.words f) (slice_index_or ended f Free) (same f l)) (λ f m l. (names_same (word_at s.words f) (slice_index_or ended f Free) (same f l) m).0) own.booked;
    }

-- the claim word of an extent, where it was read
pub word_read : (words : List ℕ) (e i n : ℕ) → i ≡ claim_place e → get_elem? words i ≡ some n → word_at words e ≡ word_of n
word_read words e i n is at = ap word_of (ap (λ k. slice_index words k) (sym is) ∙ read_at words i n at)
