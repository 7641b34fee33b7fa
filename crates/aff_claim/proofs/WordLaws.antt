-- Claim words and the numbers that stand for them.
use Rattle.std.proofs.Common.{◌≡◌, ◌≢◌, ℕ, ◌+◌, ◌-◌, ◌*◌, ◌/◌, ◌%◌, ◌==◌, Bool, true, false, refl, sym, ap, ◌∙◌, arith, eq-eqb, ne_eqb}
use Rattle.std.proofs.lemmas.Bool.Decides.{nat_tests}
use Rattle.aff_claim.specs.declared.word.Word.{Word}
use Rattle.aff_claim.specs.declared.word.Word.TheVariants.{Free, Claimed, Published}
use Rattle.aff_claim.specs.Words.{Names, number_of, word_of}

pub word_of-number_of : (w : Word) → word_of (number_of w) ≡ w
word_of-number_of Free = refl
word_of-number_of (Claimed k) =
    let free : (2 * k + 1 == 0) ≡ false = grind (arith, nat_tests) in
    let one : (2 * k + 1) % 2 ≡ 1 = omega arith in
    let odd : ((2 * k + 1) % 2 == 1) ≡ true = grind (arith, nat_tests) in
    let half : (2 * k + 1 - 1) / 2 ≡ k = omega arith in
    rw (free, odd, half) refl
word_of-number_of (Published k) =
    let free : (2 * k + 2 == 0) ≡ false = grind (arith, nat_tests) in
    let one : (2 * k + 2) % 2 ≡ 0 = omega arith in
    let odd : ((2 * k + 2) % 2 == 1) ≡ false = grind (arith, nat_tests) in
    let half : (2 * k + 2 - 2) / 2 ≡ k = omega arith in
    rw (free, odd, half) refl

pub number_of-word_of : (n : ℕ) → number_of (word_of n) ≡ n
number_of-word_of n = by_cases (n == 0) (n % 2 == 1) refl refl
  where
    by_cases : (free odd : Bool) → (n == 0) ≡ free → (n % 2 == 1) ≡ odd → number_of (word_of n) ≡ n
    by_cases true odd z is = let zero : n ≡ 0 = grind (arith, nat_tests) in rw z (sym zero)
    by_cases false true z is = let one : n % 2 ≡ 1 = grind (arith, nat_tests) in rw (z, is) (omega arith)
    by_cases false false z is = let some : n ≢ 0 = grind (arith, nat_tests) in let one : n % 2 ≢ 1 = grind (arith, nat_tests) in rw (z, is) (omega arith)

-- what number a word's is
pub word_is : (n : ℕ) (w : Word) → word_of n ≡ w → n ≡ number_of w
word_is n w is = sym (number_of-word_of n) ∙ ap number_of is

pub names_one : (w : Word) (k m : ℕ) → Names w k → Names w m → k ≡ m
names_one Free k m a b = absurd a
names_one (Claimed n) k m a b = sym a ∙ b
names_one (Published n) k m a b = sym a ∙ b

pub names_taken : (w : Word) (k : ℕ) → Names w k → w ≢ Free
names_taken Free k named _ = named
names_taken (Claimed n) k named e = cc
names_taken (Published n) k named e = cc

-- an odd number is a claim, and an even one that is not 0 a publication
pub names_odd : (n : ℕ) → n ≢ 0 → n % 2 ≡ 1 → Names (word_of n) ((n - 1) / 2)
names_odd n some one =
    let free : (n == 0) ≡ false = ne_eqb n 0 some in
    let odd : (n % 2 == 1) ≡ true = eq-eqb (n % 2) 1 one in
    rw (free, odd) refl

pub names_even : (n : ℕ) → n ≢ 0 → n % 2 ≢ 1 → Names (word_of n) ((n - 2) / 2)
names_even n some none =
    let free : (n == 0) ≡ false = ne_eqb n 0 some in
    let even : (n % 2 == 1) ≡ false = ne_eqb (n % 2) 1 none in
    rw (free, even) refl
