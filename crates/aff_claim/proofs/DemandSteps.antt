-- The steps on demand words keep the rule, and tell what they say; each other step leaves the demands as they are.
use Rattle.std.proofs.Common.{◌≡◌, ◌≢◌, false, ℕ, ◌/◌, ◌%◌, ◌^◌, ◌<◌, List, [], get_or, set, refl, sym, ap, subst, ⊎_elim, arith, get_or-set_other, get_or-set_same, Contains}
use mathlib.Core.Option.{none, some}
use mathlib.Core.Logic.{dite}
use native.Mathlib.Decide.{ℕ_discrete}
use lib.ListN.{get_elem?}
use lib.Seq.{set-get_or}
use Rattle.std.specs.Prelude.{bit_or}
use Rattle.std.proofs.lemmas.List.Elements.{Contains-push_cases}
use Rattle.std.proofs.lemmas.Nat.Bits.{bit_at_or, bit_at-lt, bit_at-pow_same, bit_at-pow_other}
use Rattle.std.specs.Int.{bit_at}
use Rattle.atomic_table.specs.Table.{State, Me, Act, step, keeps, stepped, Allows, Splits}
use Rattle.aff_claim.specs.declared.view.Limits.{Limits}
use Rattle.aff_claim.specs.declared.view.PassView.{PassView}
use Rattle.aff_claim.specs.declared.view.View.{View}
use Rattle.aff_claim.specs.declared.word.Word.{Word}
use Rattle.aff_claim.specs.Demands.{AreDemands, ArePlanned, Has, HasAsked, IsAsked}
use Rattle.aff_claim.specs.Rule.{AreClaims, IsClaimTable, IsPass}
use Rattle.aff_claim.specs.Steps.{raising, raises, demands_looked, demand_loads, TellsDemands}
use Rattle.aff_claim.specs.Words.{demand_count, demand_place, demands_at, drawn_count, word_at}
use Rattle.aff_claim.proofs.ListLaws.{at_push, none_in, seats_stay}
use Rattle.aff_claim.proofs.PassSteps.{aside}

-- a pass has asked for no more than another, and has found no more
abbrev pub Within : PassView → PassView → Type 0
Within p q = ((e : ℕ) → Contains q.raised e → Contains p.raised e) × ((d bits : ℕ) → Contains q.looked (d, bits) → Contains p.looked (d, bits))

pub within_same : (p q : PassView) → q ≡ p → Within p q
within_same p q same = (λ e c. subst (λ x. Contains x.raised e) same c, λ d bits c. subst (λ x. Contains x.looked (d, bits)) same c)

-- demands that grow keep what was asked
pub asked_kept : (extents : ℕ) (asked now : ℕ → ℕ) (p q : PassView) → Within p q → ((d i : ℕ) → d < demand_count extents → Has (asked d) i → Has (now d) i) → HasAsked extents asked p → HasAsked extents now q
asked_kept extents asked now p q within grows ok = record {
  raised = λ e c. let was = ok.raised e (within.0 e c) in let low = was.0 in (low, grows (e / 64) (e % 64) (omega arith) was.1);
  looked = λ d bits c. let was = ok.looked d bits (within.1 d bits c) in (was.0, λ i h. grows d i was.0 (was.1 i h));
}

-- a bit that is set beside others
or_has : (a b i : ℕ) → Has a i → Has (bit_or a b) i
or_has a b i h = let joined = bit_at_or a b i in let low = bit_at-lt b i in omega arith

-- of a word and one bit more
or_bit : (a k i : ℕ) → Has (bit_or a (2 ^ k)) i → i ≢ k → Has a i
or_bit a k i h other = let joined = bit_at_or a (2 ^ k) i in let none = bit_at-pow_other k i other in omega arith

or_one : (a k : ℕ) → Has (bit_or a (2 ^ k)) k
or_one a k = let joined = bit_at_or a (2 ^ k) k in let one = bit_at-pow_same k in let low = bit_at-lt a k in omega arith

-- powers of two are apart
pub same_power : (j k : ℕ) → 2 ^ j ≡ 2 ^ k → j ≡ k
same_power j k same = dite (ℕ_discrete j k) (λ (is : j ≡ k). is) (λ (other : j ≢ k).
    let none : bit_at (2 ^ k) j ≡ 0 = bit_at-pow_other k j other in
    let one : bit_at (2 ^ k) j ≡ 1 = subst (λ x. bit_at x j ≡ 1) same (bit_at-pow_same j) in
    absurd (omega arith))

-- the place is that of no demand word
abbrev pub Beside : Limits → ℕ → Type 0
Beside limits i = (d : ℕ) → d < demand_count limits.extents → demand_place limits.extents d ≢ i

module _ {S : Type 0} (limits : Limits) where
  -- a step on another word, by a seat whose pass asks for no more and has found no more
  pub demands_kept : (s : State S View) (i n id : ℕ) (c : List (ℕ × S)) (v w : View) (a : Act S) → Beside limits i → Within v.pass w.pass → get_elem? s.views id ≡ some v
      → AreDemands limits s → AreDemands limits (stepped s i n id c w a)
  demands_kept s i n id c v w a beside within at ok =
      let words = s.words in
      let now = set words i n in
      let same : (d : ℕ) → d < demand_count limits.extents → demands_at limits.extents now d ≡ demands_at limits.extents words d = (λ d l. get_or-set_other words i (demand_place limits.extents d) n 0 (beside d l)) in
      let grows : (d k : ℕ) → d < demand_count limits.extents → Has (demands_at limits.extents words d) k → Has (demands_at limits.extents now d) k = (λ d k l h. subst (λ x. Has x k) (sym (same d l)) h) in record {
        planned = λ d l. subst (ArePlanned limits.extents d) (sym (same d l)) (ok.planned d l);
        seats = seats_stay (λ _ u. HasAsked limits.extents (demands_at limits.extents now) u.pass) s.views id w
            (asked_kept limits.extents (demands_at limits.extents words) (demands_at limits.extents now) v.pass w.pass within grows (ok.seats id v at))
            (λ j d _ there. asked_kept limits.extents (demands_at limits.extents words) (demands_at limits.extents now) d.pass d.pass (λ e h. h, λ e b h. h) grows (ok.seats j d there));
      }

  -- so a step that the claim rule allows is allowed
  pub allows_beside : (slots id : ℕ) (me : Me S View) (i : ℕ) (f : ℕ → ℕ) (then : ℕ → Me S View → Type 0) → Beside limits i → ((n : ℕ) (m : Me S View) → then n m → Within me.0.pass m.0.pass)
      → Allows (AreClaims limits) slots id me i f then → Allows (IsClaimTable limits) slots id me i f then
  allows_beside slots id me i f then beside within allows s r homes at small =
      let a = allows s r.claims homes at small in (
        a.0,
        a.1,
        a.2,
        record { claims = a.3; demands = demands_kept s i (f (get_or s.words i 0)) id me.1 me.0 a.0 a.1 beside (within (get_or s.words i 0) (a.0, _) a.4) at r.demands },
        a.4,
      )

  -- a seat is split off whose pass has asked for nothing
  pub splits_beside : (id : ℕ) (v left right : View) → left.pass ≡ v.pass → right.pass.raised ≡ [] → right.pass.looked ≡ [] → Splits {S = S} (AreClaims limits) id v left right → Splits {S = S} (IsClaimTable limits) id v left right
  splits_beside id v left right same unasked unseen splits s r at =
      let Asked : View → Type 0 = (λ u. HasAsked limits.extents (demands_at limits.extents s.words) u.pass) in record {
        claims = splits s r.claims at;
        demands = record {
          planned = r.demands.planned;
          seats = λ j d there. ⊎_elim
              (λ h. seats_stay (λ _ u. Asked u) s.views id left (subst (HasAsked limits.extents (demands_at limits.extents s.words)) (sym same) (r.demands.seats id v at)) (λ i w _ near. r.demands.seats i w near) j d h)
              (λ h. subst Asked h.1 record {
                raised = λ e c. absurd (none_in e (subst (λ l. Contains l e) unasked c));
                looked = λ e b c. absurd (none_in (e, b) (subst (λ l. Contains l (e, b)) unseen c));
              })
              (at_push (set s.views id left) right d j there);
        };
      }

module _ {S : Type 0} (limits : Limits) (slots id : ℕ) (me : Me S View) (is_pass : me.0.is_book ≡ false) where
  abbrev v : View
  v = me.0

  raised_pass : (drawn : ℕ) (word : ℕ → Word) (e : ℕ) → IsPass limits drawn word v.pass → IsPass limits drawn word (raising v.pass e)
  raised_pass drawn word e ok = record { number = ok.number; mine = ok.mine; others = ok.others; once = ok.once; within = ok.within; known = ok.known }

  looked_pass : (drawn : ℕ) (word : ℕ → Word) (d n : ℕ) → IsPass limits drawn word v.pass → IsPass limits drawn word (demands_looked v.pass d n)
  looked_pass drawn word d n ok = record { number = ok.number; mine = ok.mine; others = ok.others; once = ok.once; within = ok.within; known = ok.known }

  -- the bit of an extent is set
  raised : (s : State S View) (r : IsClaimTable limits s) (e : ℕ) → e < limits.extents → get_elem? s.views id ≡ some v
      → AreDemands limits (stepped s (demand_place limits.extents (e / 64)) (bit_or (get_or s.words (demand_place limits.extents (e / 64)) 0) (2 ^ (e % 64))) id me.1 (record v { pass = raising v.pass e }) keeps)
  raised s r e inside at =
      let m = limits.extents in
      let words = s.words in
      let wide = r.claims.width in
      let i = demand_place m (e / 64) in
      let n = get_or words i 0 in
      let k = e % 64 in
      let now = set words i (bit_or n (2 ^ k)) in
      let here : demands_at m now (e / 64) ≡ bit_or n (2 ^ k) = get_or-set_same words i (bit_or n (2 ^ k)) 0 (omega arith) in
      let other : (d : ℕ) → d ≢ e / 64 → demands_at m now d ≡ demands_at m words d = (λ d ne. get_or-set_other words i (demand_place m d) (bit_or n (2 ^ k)) 0 (λ h. ne (omega arith))) in
      let grows : (d j : ℕ) → d < demand_count m → Has (demands_at m words d) j → Has (demands_at m now d) j = (λ d j l h. dite (ℕ_discrete d (e / 64))
      (λ (is : d ≡ e / 64). subst (λ c. Has (demands_at m now c) j) (sym is) (subst (λ x. Has x j) (sym here) (or_has n (2 ^ k) j (subst (λ c. Has (demands_at m words c) j) is h))))
      (λ (ne : d ≢ e / 64). subst (λ x. Has x j) (sym (other d ne)) h)) in
      let kept = asked_kept m (demands_at m words) (demands_at m now) v.pass v.pass (λ f h. h, λ d b h. h) grows (r.demands.seats id v at) in record {
        planned = λ d l j h. dite (ℕ_discrete d (e / 64))
            (λ (is : d ≡ e / 64). dite (ℕ_discrete j k)
            (λ (same : j ≡ k). (omega arith, omega arith))
            (λ (ne : j ≢ k). r.demands.planned d l j (subst (λ c. Has (demands_at m words c) j) (sym is) (or_bit n k j (subst (λ x. Has x j) here (subst (λ c. Has (demands_at m now c) j) is h)) ne))))
            (λ (ne : d ≢ e / 64). r.demands.planned d l j (subst (λ x. Has x j) (other d ne) h));
        seats = seats_stay (λ _ u. HasAsked m (demands_at m now) u.pass) s.views id (record v { pass = raising v.pass e })
            (record {
              raised = λ f c. ⊎_elim (λ h. kept.raised f h)
                  (λ (is : e ≡ f). subst (λ g. (g < m) × IsAsked (demands_at m now) g) is (inside, subst (λ x. Has x k) (sym here) (or_one n k)))
                  (Contains-push_cases v.pass.raised e f c);
              looked = kept.looked;
            })
            (λ j d _ there. asked_kept m (demands_at m words) (demands_at m now) d.pass d.pass (λ f h. h, λ c b h. h) grows (r.demands.seats j d there));
      }

  pub raise_allows : (e : ℕ) → e < limits.extents
      → Allows (IsClaimTable limits) slots id me (demand_place limits.extents (e / 64)) (λ n. bit_or n (2 ^ (e % 64))) (raises (step slots (demand_place limits.extents (e / 64)) (2 ^ (e % 64)) 0 none) me)
  raise_allows e inside s r homes at small =
      let i = demand_place limits.extents (e / 64) in
      let n = bit_or (get_or s.words i 0) (2 ^ (e % 64)) in
      let extents : v.extents ≡ limits.extents = (r.claims.seats id v at).extents in (
        record v { pass = raising v.pass e },
        keeps,
        tt,
        record {
          claims = aside limits slots id me is_pass s r.claims i n (raising v.pass e) (omega arith) at refl (λ ok. raised_pass (drawn_count (set s.words i n)) (word_at (set s.words i n)) e ok);
          demands = raised s r e inside at;
        },
        λ f (word : demand_place limits.extents (e / 64) ≡ demand_place v.extents (f / 64)) first.
            let bit : e % 64 ≡ f % 64 = same_power (e % 64) (f % 64) first in
            let same : e ≡ f = omega arith in
            ap (λ g. (record v { pass = raising v.pass g }, me.1)) same,
      )

  found : (s : State S View) (r : IsClaimTable limits s) (d : ℕ) → d < demand_count limits.extents → get_elem? s.views id ≡ some v
      → AreDemands limits (stepped s (demand_place limits.extents d) (get_or s.words (demand_place limits.extents d) 0) id me.1 (record v { pass = demands_looked v.pass d (get_or s.words (demand_place limits.extents d) 0) }) keeps)
  found s r d l at =
      let m = limits.extents in
      let n = demands_at m s.words d in
      let ok = r.demands.seats id v at in
      subst (λ (ws : List ℕ). AreDemands limits record { words = ws; homes = s.homes; views = set s.views id (record v { pass = demands_looked v.pass d n }) }) (sym (set-get_or s.words (demand_place m d) 0)) record {
        planned = r.demands.planned;
        seats = seats_stay (λ _ u. HasAsked m (demands_at m s.words) u.pass) s.views id (record v { pass = demands_looked v.pass d n })
            (record {
              raised = ok.raised;
              looked = λ c b has. ⊎_elim (λ h. ok.looked c b h)
                  (λ (is : (d, n) ≡ (c, b)). subst (λ (z : ℕ × ℕ). (z.0 < demand_count m) × ((i : ℕ) → Has z.1 i → Has (demands_at m s.words z.0) i)) is (l, λ i h. h))
                  (Contains-push_cases v.pass.looked (d, n) (c, b) has);
            })
            (λ j w _ there. r.demands.seats j w there);
      }

  pub demand_load_allows : (d : ℕ) → d < demand_count limits.extents
      → Allows (IsClaimTable limits) slots id me (demand_place limits.extents d) (λ x. x) (demand_loads (step slots (demand_place limits.extents d) 0 0 none) me)
  demand_load_allows d l s r homes at small =
      let i = demand_place limits.extents d in
      let n = get_or s.words i 0 in
      let extents : v.extents ≡ limits.extents = (r.claims.seats id v at).extents in
      let told : TellsDemands v d n = record {
        planned = subst (λ m. ArePlanned m d n) (sym extents) (r.demands.planned d l);
        before = λ old k c h. ((r.demands.seats id v at).looked d old c).1 k h;
      } in (
        record v { pass = demands_looked v.pass d n },
        keeps,
        tt,
        record {
          claims = aside limits slots id me is_pass s r.claims i n (demands_looked v.pass d n) (omega arith) at refl (λ ok. looked_pass (drawn_count (set s.words i n)) (word_at (set s.words i n)) d n ok);
          demands = found s r d l at;
        },
        λ c (word : demand_place limits.extents d ≡ demand_place v.extents c).
            let same : d ≡ c = omega arith in
            (ap (λ x. (record v { pass = demands_looked v.pass x n }, me.1)) same, subst (λ x. TellsDemands v x n) same told),
      )
