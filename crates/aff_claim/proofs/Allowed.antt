-- Each kind of step keeps the whole rule.
use Rattle.std.proofs.Common.{◌≡◌, ℕ, ◌+◌, ◌-◌, ◌*◌, ◌%◌, ◌^◌, ◌<◌, ◌==◌, true, false, refl, ap, subst, arith, Contains, Some}
use mathlib.Core.Option.{none}
use prog.Atomic.{either}
use Rattle.atomic_table.specs.Table.{State, Me, step, Allows, Splits}
use Rattle.aff_claim.specs.declared.view.Limits.{Limits}
use Rattle.aff_claim.specs.declared.view.PassView.{PassView}
use Rattle.aff_claim.specs.declared.view.View.{View}
use Rattle.aff_claim.specs.declared.word.Word.{Word}
use Rattle.aff_claim.specs.declared.word.Word.TheVariants.{Free, Claimed, Published}
use Rattle.aff_claim.specs.Rule.{IsClaimTable}
use Rattle.aff_claim.specs.Steps.{looked, tried, registers, turns, claims, loads, book_loads, publishes, sweeps}
use Rattle.aff_claim.specs.Views.{given, newcomer}
use Rattle.aff_claim.specs.Words.{cursor_place, word_of}
use Rattle.aff_claim.proofs.BookSteps as book
use Rattle.aff_claim.proofs.ListLaws.{none_in}
use Rattle.aff_claim.proofs.DemandSteps.{Beside, Within, within_same, allows_beside, splits_beside}
use Rattle.aff_claim.proofs.PassSteps as pass
use Rattle.aff_claim.proofs.PublishSteps as publish

looked_within : (p q : PassView) (e : ℕ) (w : Word) → q ≡ looked p e w → Within p q
looked_within p q e w is = (λ f c. subst (λ x. Contains x.raised f) is c, λ d b c. subst (λ x. Contains x.looked (d, b)) is c)

tried_within : (p q : PassView) (e : ℕ) (w : Word) → q ≡ tried p e w → Within p q
tried_within p q e Free is = (λ f c. subst (λ x. Contains x.raised f) is c, λ d b c. absurd (none_in (d, b) (subst (λ x. Contains x.looked (d, b)) is c)))
tried_within p q e (Claimed k) is = looked_within p q e (Claimed k) is
tried_within p q e (Published k) is = looked_within p q e (Published k) is

module _ {S : Type 0} (limits : Limits) (slots id : ℕ) (me : Me S View) where
  abbrev Rule : State S View → Type 0
  Rule = IsClaimTable {S = S} limits

  abbrev v : View
  v = me.0

  -- claim words, and the count of numbers drawn, are no demand words
  before : (i : ℕ) → i < limits.extents + 1 → Beside limits i
  before i l d _ h = absurd (omega arith)

  module _ (is_pass : v.is_book ≡ false) where
    pub load_allowed : (e : ℕ) → e < limits.extents → Allows Rule slots id me (e + 1) (λ x. x) (loads (step slots (e + 1) 0 0 none) me)
    load_allowed e inside = allows_beside limits slots id me (e + 1) (λ x. x) (loads (step slots (e + 1) 0 0 none) me) (before (e + 1) (omega arith))
        (λ n m told. looked_within v.pass m.0.pass e (word_of n) (ap (λ x. x.0.pass) (told e refl).0)) (pass.load_allows limits slots id me is_pass e inside)

    pub claim_allowed : (e : ℕ) → e < limits.extents → v.pass.number < limits.workers
        → Allows Rule slots id me (e + 1) (λ x. either (x == 0) (2 * v.pass.number + 1) x) (claims (step slots (e + 1) 0 (2 * v.pass.number + 1) none) me)
    claim_allowed e inside worker = allows_beside limits slots id me (e + 1) (λ x. either (x == 0) (2 * v.pass.number + 1) x) (claims (step slots (e + 1) 0 (2 * v.pass.number + 1) none) me) (before (e + 1) (omega arith))
        (λ n m told. tried_within v.pass m.0.pass e (word_of n) (ap (λ x. x.0.pass) (told e refl).0)) (pass.claim_allows limits slots id me is_pass e inside worker)

    pub turn_allowed : Allows Rule slots id me (cursor_place limits.extents) (λ x. (x + 1) % 2 ^ 64) (turns (step slots (cursor_place limits.extents) 1 0 none) me)
    turn_allowed = allows_beside limits slots id me (cursor_place limits.extents) (λ x. (x + 1) % 2 ^ 64) (turns (step slots (cursor_place limits.extents) 1 0 none) me) (λ d l h. absurd (omega arith))
        (λ n m told. within_same v.pass m.0.pass (ap (λ x. x.0.pass) told)) (pass.turn_allows limits slots id me is_pass (cursor_place limits.extents) (omega arith))

  module _ (is_book : v.is_book ≡ true) where
    pub register_allowed : v.book.made < 2 ^ 32 - 1 → Allows Rule slots id me 0 (λ x. (x + 1) % 2 ^ 64) (registers (step slots 0 1 0 none) me)
    register_allowed room = allows_beside limits slots id me 0 (λ x. (x + 1) % 2 ^ 64) (registers (step slots 0 1 0 none) me) (before 0 (omega arith))
        (λ n m told. within_same v.pass m.0.pass (ap (λ x. x.0.pass) told.0)) (book.register_allows limits slots id me is_book room)

    pub book_load_allowed : (e : ℕ) → e < limits.extents → Allows Rule slots id me (e + 1) (λ x. x) (book_loads (step slots (e + 1) 0 0 none) me)
    book_load_allowed e inside = allows_beside limits slots id me (e + 1) (λ x. x) (book_loads (step slots (e + 1) 0 0 none) me) (before (e + 1) (omega arith))
        (λ n m told. within_same v.pass m.0.pass (ap (λ x. x.0.pass) (told e refl).0)) (book.load_allows limits slots id me is_book e inside)

    pub publish_allowed : (e k : ℕ) → e < limits.extents
        → Allows Rule slots id me (e + 1) (λ x. either (x == 2 * k + 1) (2 * k + 2) x) (publishes (step slots (e + 1) (2 * k + 1) (2 * k + 2) none) me)
    publish_allowed e k inside = allows_beside limits slots id me (e + 1) (λ x. either (x == 2 * k + 1) (2 * k + 2) x) (publishes (step slots (e + 1) (2 * k + 1) (2 * k + 2) none) me) (before (e + 1) (omega arith))
        (λ n m told. within_same v.pass m.0.pass (ap (λ x. x.0.pass) (told e refl k refl).0)) (publish.publish_allows limits slots id me is_book e k inside)

    pub sweep_allowed : (e : ℕ) → e < limits.extents
        → Allows Rule slots id me (e + 1) (λ x. either (x == 0) (2 * limits.workers + 1) x) (sweeps (step slots (e + 1) 0 (2 * limits.workers + 1) none) me)
    sweep_allowed e inside = allows_beside limits slots id me (e + 1) (λ x. either (x == 0) (2 * limits.workers + 1) x) (sweeps (step slots (e + 1) 0 (2 * limits.workers + 1) none) me) (before (e + 1) (omega arith))
        (λ n m told. within_same v.pass m.0.pass (ap (λ x. x.0.pass) (told e refl).0)) (publish.sweep_allows limits slots id me is_book e inside)

    pub splits_allowed : (k : ℕ) → v.book.drawn ≡ Some k → Splits {S = S} Rule id v (given v) (newcomer v)
    splits_allowed k has = splits_beside limits id v (given v) (newcomer v) refl refl refl (book.splits limits slots id me is_book k has)
