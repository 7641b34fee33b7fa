-- Two parts, one behind the other, that were read around what cannot be read.
use Rattle.std.proofs.Common.{◌≡◌, ℕ, ◌+◌, ◌-◌, ◌*◌, ◌/◌, ◌%◌, ◌<◌, ◌≤◌, inl, inr, List, ◌++◌, length, get_or, refl, sym, ap, ◌∙◌, subst, arith, length-append}
use Rattle.std.proofs.lemmas.Bool.{cases_lt}
use Rattle.std.proofs.lemmas.List.{get_or_append_left, get_or-append_right, get_or_default}
use Rattle.std.proofs.lemmas.List.Elements.{Contains-append_left, Contains-append_right, Contains-append_cases}
use Rattle.std.specs.Prelude.{Option, None, Some, IfSome, Contains}
use Rattle.std.specs.List.Sorted.{IsStrictlyIncreasing}
use Rattle.aff_model.specs.declared.limits.TheConstants.{SECTOR}
use Rattle.aff_model.specs.Content.{Content, IsBlock, block_of}
use Rattle.aff_model.specs.Legal.{blocks_in}
use Rattle.aff_device.specs.Around.{RoseBy, IsToldPart, IsPart}
use Rattle.aff_device.proofs.Blocks.{whole_sum, blocks_sum, other_block}

at_left : (xs ys : List ℕ) (i : ℕ) → i < length xs → get_or (xs ++ ys) i 0 ≡ get_or xs i 0
at_left xs ys i h = get_or_append_left xs ys 0 i h

at_right : (xs ys : List ℕ) (n i j : ℕ) → length xs ≡ n → i ≡ n + j → get_or (xs ++ ys) i 0 ≡ get_or ys j 0
at_right xs ys n i j len is =
    let back : i - n ≡ j = omega (arith, is) in
    get_or-append_right xs ys n i 0 len (omega (arith, is)) ∙ ap (λ t. get_or ys t 0) back

has_own : (xs : List ℕ) (k : ℕ) → k < length xs → Contains xs (get_or xs k 0)
has_own xs k h = (k, h, get_or_default xs k (get_or xs k 0) 0 h)

-- numbers that rise, and then greater numbers that rise
rising_both : (xs ys : List ℕ) (m : ℕ) → IsStrictlyIncreasing xs → IsStrictlyIncreasing ys → ((s : ℕ) → Contains xs s → s < m) → ((s : ℕ) → Contains ys s → m ≤ s) → IsStrictlyIncreasing (xs ++ ys)
rising_both xs ys m up more below above k h =
    let all : length (xs ++ ys) ≡ length xs + length ys = length-append xs ys in
    elim (cases_lt (k + 1) (length xs)) as (λ _. get_or (xs ++ ys) k 0 < get_or (xs ++ ys) (k + 1) 0) [
      | inl l ↦ let a = at_left xs ys k (omega (arith, l)) in let b = at_left xs ys (k + 1) l in let u = up k l in omega (arith, a, b, u)
      | inr r ↦ elim (cases_lt k (length xs)) as (λ _. get_or (xs ++ ys) k 0 < get_or (xs ++ ys) (k + 1) 0) [
        | inl l ↦
            let a = at_left xs ys k l in
            let b = at_right xs ys (length xs) (k + 1) 0 refl (omega (arith, l, r)) in
            let u = below _ (has_own xs k l) in
            let v = above _ (has_own ys 0 (omega (arith, l, r, h, all))) in
            omega (arith, a, b, u, v)
        | inr q ↦
            let a = at_right xs ys (length xs) k (k - length xs) refl (omega (arith, q)) in
            let b = at_right xs ys (length xs) (k + 1) (k - length xs + 1) refl (omega (arith, q)) in
            let u = more (k - length xs) (omega (arith, q, h, all)) in
            omega (arith, a, b, u)
      ]
    ]

told_both : (c : Content) (start first h : ℕ) (b1 b2 m1 m2 : List ℕ) → length b1 ≡ SECTOR * h → IsToldPart c start first b1 m1 → IsToldPart c start (first + h) b2 m2 → IsToldPart c start first (b1 ++ b2) (m1 ++ m2)
told_both c start first h b1 b2 m1 m2 len p q =
    let all : length (b1 ++ b2) ≡ length b1 + length b2 = length-append b1 b2 in
    record {
      weak = λ s has. elim (Contains-append_cases m1 m2 s has) [ inl l ↦ p.weak s l | inr r ↦ q.weak s r ];
      every_bad = λ s low high bad. elim (cases_lt s (first + h)) [
        | inl l ↦ Contains-append_left m1 m2 s (p.every_bad s low (omega (arith, l, len)) bad)
        | inr r ↦ Contains-append_right m1 m2 s (q.every_bad s r (omega (arith, r, high, all, len)) bad)
      ];
      known = λ k below out. elim (cases_lt k (length b1)) [
        | inl l ↦ at_left b1 b2 k l ∙ p.known k l (λ has. out (Contains-append_left m1 m2 _ has))
        | inr r ↦
            let place : first + h + (k - SECTOR * h) / SECTOR ≡ first + k / SECTOR = omega (arith, r, len) in
            let byte : start + SECTOR * (first + h) + (k - SECTOR * h) ≡ start + SECTOR * first + k = omega (arith, r, len) in
            at_right b1 b2 (SECTOR * h) k (k - SECTOR * h) len (omega (arith, r, len))
            ∙ q.known (k - SECTOR * h) (omega (arith, r, below, all, len)) (λ has. out (subst (λ t. Contains (m1 ++ m2) t) place (Contains-append_right m1 m2 _ has)))
            ∙ ap c.byte byte
      ];
    }

-- a block is on one side of the edge between two parts
both_together : (content : Option Content) (block start first h : ℕ) (b1 b2 m1 m2 : List ℕ) → IsBlock block → start % block ≡ 0 → SECTOR * (first + h) % block ≡ 0 → length b1 ≡ SECTOR * h
    → IsPart content block start first b1 m1 → IsPart content block start (first + h) b2 m2 → (s t : ℕ) → Contains (m1 ++ m2) s → first ≤ t → t < first + length (b1 ++ b2) / SECTOR
    → block_of block (start / SECTOR + s) ≡ block_of block (start / SECTOR + t) → Contains (m1 ++ m2) t
both_together content block start first h b1 b2 m1 m2 is start_whole edge len p q s t has low high same =
    let all : length (b1 ++ b2) ≡ length b1 + length b2 = length-append b1 b2 in
    elim (Contains-append_cases m1 m2 s has) [
      | inl l ↦
          let below = p.high s l in
          elim (cases_lt t (first + h)) [
            | inl u ↦ Contains-append_left m1 m2 t (p.together s t l low (omega (arith, u, len)) same)
            | inr u ↦ absurd (other_block block start (first + h) s t is start_whole edge (omega (arith, below, len)) u same)
          ]
      | inr r ↦
          let above = q.low s r in
          elim (cases_lt t (first + h)) [
            | inl u ↦ absurd (other_block block start (first + h) t s is start_whole edge u above (sym same))
            | inr u ↦ Contains-append_right m1 m2 t (q.together s t r u (omega (arith, u, high, all, len)) same)
          ]
    ]

pub both_parts : (content : Option Content) (block start first h : ℕ) (b1 b2 m1 m2 : List ℕ) → IsBlock block → start % block ≡ 0 → SECTOR * (first + h) % block ≡ 0 → length b1 ≡ SECTOR * h
    → IsPart content block start first b1 m1 → IsPart content block start (first + h) b2 m2 → IsPart content block start first (b1 ++ b2) (m1 ++ m2)
both_parts content block start first h b1 b2 m1 m2 is start_whole edge len p q =
    let all : length (b1 ++ b2) ≡ length b1 + length b2 = length-append b1 b2 in
    let few : length (m1 ++ m2) ≡ length m1 + length m2 = length-append m1 m2 in
    record {
      rising = rising_both m1 m2 (first + h) p.rising q.rising (λ s has. let t = p.high s has in omega (arith, t, len)) q.low;
      few = let t = p.few in let u = q.few in omega (arith, t, u, all, few, len);
      low = λ s has. elim (Contains-append_cases m1 m2 s has) [ inl l ↦ p.low s l | inr r ↦ (let t = q.low s r in omega (arith, t)) ];
      high = λ s has. elim (Contains-append_cases m1 m2 s has) [ inl l ↦ (let t = p.high s l in omega (arith, t, all, len)) | inr r ↦ (let t = q.high s r in omega (arith, t, all, len)) ];
      together = both_together content block start first h b1 b2 m1 m2 is start_whole edge len p q;
      whole =
          let sum : SECTOR * length m1 + SECTOR * length m2 ≡ SECTOR * length (m1 ++ m2) = omega (arith, few) in
          subst (λ n. n % block ≡ 0) sum (whole_sum block (SECTOR * length m1) (SECTOR * length m2) is p.whole q.whole);
      zero = λ s has k below. elim (Contains-append_cases m1 m2 (first + s) has) [
        | inl l ↦ let t = p.high (first + s) l in at_left b1 b2 (SECTOR * s + k) (omega (arith, t, below, len)) ∙ p.zero s l k below
        | inr r ↦
            let t = q.low (first + s) r in
            let place : first + s ≡ first + h + (s - h) = omega (arith, t) in
            at_right b1 b2 (SECTOR * h) (SECTOR * s + k) (SECTOR * (s - h) + k) len (omega (arith, t)) ∙ q.zero (s - h) (subst (λ t. Contains m2 t) place r) k below
      ];
      told = elim content as (λ o. IfSome o (λ c. IsToldPart c start first b1 m1) → IfSome o (λ c. IsToldPart c start (first + h) b2 m2) → IfSome o (λ c. IsToldPart c start first (b1 ++ b2) (m1 ++ m2))) [
        | None ↦ λ t u. tt
        | Some c ↦ λ t u. told_both c start first h b1 b2 m1 m2 len t u
      ] p.told q.told;
    }

pub rose_both : (block : ℕ) (m1 m2 : List ℕ) (before mid now : ℕ) → IsBlock block → SECTOR * length m1 % block ≡ 0 → SECTOR * length m2 % block ≡ 0 → RoseBy (blocks_in block m1) before mid → RoseBy (blocks_in block m2) mid now
    → RoseBy (blocks_in block (m1 ++ m2)) before now
rose_both block m1 m2 before mid now is w1 w2 r s =
    let sum : blocks_in block (m1 ++ m2) ≡ blocks_in block m1 + blocks_in block m2 =
    ap (λ n. SECTOR * n / block) (length-append m1 m2) ∙ blocks_sum block (length m1) (length m2) is w1 w2 in
    let both : RoseBy (blocks_in block m1 + blocks_in block m2) before now = omega (arith, r, s) in
    subst (λ n. RoseBy n before now) (sym sum) both
