-- What one look after another leaves, and what it is answered.
use Rattle.std.proofs.Common.{◌≡◌, ℕ, ◌+◌, ◌-◌, ◌<◌, ◌≤◌, Bool, false, Option, None, Some, IfSome, List, length, map, take, drop, get_or, refl, sym, ap, subst, ◌∙◌, arith, All, length-drop}
use Rattle.std.specs.Prelude.{Err, IsSome, Ok, OnOk, Result, is_some}
use Rattle.std.specs.Result.{result_err}
use Rattle.std.proofs.lemmas.List.{get_or-drop, get_or-take, length-take-le, take_all}
use Rattle.aff_model.specs.declared.cell.Kind.{Kind}
use Rattle.aff_model.specs.declared.cell.Run.{Run}
use Rattle.aff_model.specs.Cells.{cell_of}
use Rattle.aff_model.specs.Causes.{HasCause, Rose}
use Rattle.aff_model.specs.Content.{Content}
use Rattle.aff_model.specs.History.{Part, publication_of}
use Rattle.aff_model.specs.Kinds.{IsAnswer, kind_at}
use Rattle.aff_model.specs.Plan.{Planned}
use Rattle.aff_spec.specs.Symbols.{fill_of}
use Rattle.aff_snapshot.specs.Lists.{Beginning}
use Rattle.aff_snapshot.proofs.Beginnings.{prefix_self, prefix_trans}
use Rattle.aff_analyst.specs.Answers.{IsReadBy}
use Rattle.aff_analyst.specs.Bytes.{IsShown}
use Rattle.aff_analyst.specs.Values.{MayHaveGrown}
use Rattle.aff_script.specs.Answered.{Answered}
use Rattle.aff_script.specs.declared.answer.RunLine.{RunLine}
use Rattle.aff_session.specs.Answers.{run_of}
use Rattle.aff_session.specs.Lines.{AreLinesOf, line_bytes}
use Rattle.aff_session.specs.Looking.{HasLooked, IsWholeAnswer, Looking}
use Rattle.aff_session.specs.Shown.{AreShown, IsLineBy}
use Rattle.aff_session.proofs.Rows.{IsLineIn, answer_lines}

-- a later look
grown_trans : {R : Type 0} (a b c : Option (Beginning R)) → MayHaveGrown a b → MayHaveGrown b c → MayHaveGrown a c
grown_trans None None None f g = g
grown_trans None None (Some z) f g = absurd (cc (g))
grown_trans None (Some y) c f g = absurd (cc (f))
grown_trans (Some x) None c f g = absurd f
grown_trans (Some x) (Some y) None f g = absurd g
grown_trans (Some x) (Some y) (Some z) f g = record { list = g.list ∙ f.list; longer = prefix_trans x.pieces y.pieces z.pieces f.longer g.longer }

pub grown_self : {R : Type 0} (a : Option (Beginning R)) → MayHaveGrown a a
grown_self None = refl
grown_self (Some x) = record { list = refl; longer = prefix_self x.pieces }

pub looked_self : {R P : Type 0} (a : Looking R P) → HasLooked a a
looked_self a = record { plan = refl; viewer = grown_self a.viewer; claims = refl; raised = λ e c. c }

pub looked_trans : {R P : Type 0} (a b c : Looking R P) → HasLooked a b → HasLooked b c → HasLooked a c
looked_trans a b c f g = record { plan = g.plan ∙ f.plan; viewer = grown_trans a.viewer b.viewer c.viewer f.viewer g.viewer; claims = g.claims ∙ f.claims; raised = λ e c. g.raised e (f.raised e c) }

-- who could look can look again
pub can_look : {R : Type 0} (a b : Option (Beginning R)) → IsSome a → MayHaveGrown a b → IsSome b
can_look None b some f = absurd (cc (some))
can_look (Some x) None some f = absurd f
can_look (Some x) (Some y) some f = refl

-- what is told of a viewer, where there is one
pub by_viewer : {R : Type 0} (o : Option (Beginning R)) (P : Beginning R → Type 0) (Q : Type 0) → IsSome o → IfSome o P → ((v : Beginning R) → P v → Q) → Q
by_viewer None P Q some is to = absurd (cc (some))
by_viewer (Some v) P Q some is to = to v is

pub both_viewer : {R : Type 0} (o : Option (Beginning R)) (P Q S : Beginning R → Type 0) → IfSome o P → IfSome o Q → ((v : Beginning R) → P v → Q v → S v) → IfSome o S
both_viewer None P Q S p q to = tt
both_viewer (Some v) P Q S p q to = to v p q

pub to_viewer : {R : Type 0} (o : Option (Beginning R)) (P Q : Beginning R → Type 0) → IfSome o P → ((v : Beginning R) → P v → Q v) → IfSome o Q
to_viewer None P Q p to = tt
to_viewer (Some v) P Q p to = to v p

-- what holds of every viewer holds of this one
pub any_viewer : {R : Type 0} (o : Option (Beginning R)) (P : Beginning R → Type 0) → ((v : Beginning R) → P v) → IfSome o P
any_viewer None P to = tt
any_viewer (Some v) P to = to v

-- what follows of an answer, and what holds whatever it is
pub to_ok : {T E : Type 0} (r : Result T E) (P Q : Type 0) → OnOk r P → (P → Q) → OnOk r Q
to_ok (Ok x) P Q p f = f p
to_ok (Err e) P Q p f = tt

pub any_ok : {T E : Type 0} (r : Result T E) (Q : Type 0) → Q → OnOk r Q
any_ok (Ok x) Q q = q
any_ok (Err e) Q q = tt

pub none_by : {X : Type 0} (o : Option X) (b : Bool) → b ≡ is_some o → b ≡ false → o ≡ None
none_by None b is off = refl
none_by (Some x) b is off = absurd (cc (is, off))

-- where there is no fault there was no error
pub no_fault : {T E : Type 0} (r : Result T E) (fault : Option E) (Q : Type 0) → fault ≡ result_err r → fault ≡ None → OnOk r Q → Q
no_fault (Ok x) fault Q is none q = q
no_fault (Err e) fault Q is none q = absurd (cc (is, none))

-- the cause of what came last is the cause of all
pub cause_later : (before now last : ℕ) (fault : Type 0) → before ≤ now → HasCause now last fault → HasCause before last fault
cause_later before now last fault later cause = record {
  later = omega (arith, later, cause.later);
  rose = λ f. (let r : Rose now last = cause.rose f in omega (arith, later, r));
}

-- a cell at the same place
shown_at : (c : Content) (plan : Planned) {R : Type 0} (pieces : List (Part R)) (at k i byte : ℕ) → at + k ≡ i → byte ≡ fill_of (at + k) (cell_of c plan.extents (map publication_of pieces) (at + k)) → byte ≡ fill_of i (cell_of c plan.extents (map publication_of pieces) i)
shown_at c plan pieces at k i byte same is = is ∙ ap (λ j. fill_of j (cell_of c plan.extents (map publication_of pieces) j)) same

-- the bytes of a run are shown
line_shown : (plan : Planned) (tells : Bool) {R : Type 0} (told : R → List ℕ) (pieces : List (Part R)) (at len : ℕ) (bytes : List ℕ) (runs : List Run) (kind : ℕ → Kind) (l : RunLine) → IsReadBy plan tells told pieces at len bytes runs → len ≤ length bytes → IsLineIn kind at len l
    → (length (line_bytes at bytes l) ≡ l.len) × AreShown plan tells told pieces l.at (line_bytes at bytes l)
line_shown plan tells told pieces at len bytes runs kind l read room one =
    let from : ℕ = l.at - at in
    let own : List ℕ = line_bytes at bytes l in
    let count : length own ≡ l.len = length-take-le l.len (drop from bytes) (omega (arith, length-drop from bytes, one.from, one.to, room)) in
    let place : (k : ℕ) → at + (from + k) ≡ l.at + k = λ k. omega (arith, one.from) in
    let byte : (k : ℕ) → k < l.len → get_or own k 0 ≡ get_or bytes (from + k) 0 = λ k low. get_or-take l.len (drop from bytes) k 0 low ∙ get_or-drop from bytes k 0 in (
      count,
      record {
        each = λ k low. (let inside : k < l.len = omega (arith, low, count) in
            subst (λ i. IsShown tells told plan.extents pieces i (get_or own k 0)) (place k)
            (subst (IsShown tells told plan.extents pieces (at + (from + k))) (sym (byte k inside)) (read.shown (from + k) (omega (arith, inside, one.from, one.to)))));
        cells = λ t c sound k low. (let inside : k < l.len = omega (arith, low, count) in
            byte k inside ∙ shown_at c plan pieces at (from + k) (l.at + k) (get_or bytes (from + k) 0) (place k) (read.cells t c sound (from + k) (omega (arith, inside, one.from, one.to))));
      },
    )

-- the answer that a read gave
pub whole_answer : (plan : Planned) (tells : Bool) {R : Type 0} (told : R → List ℕ) (pieces : List (Part R)) (at len front : ℕ) (bytes : List ℕ) (runs : List Run) (a : Answered) → IsReadBy plan tells told pieces at len bytes runs → front ≡ length pieces
    → (a.at ≡ at) × (a.len ≡ len) × (a.front ≡ front) → len ≤ length bytes → AreLinesOf at bytes runs a.runs → IsWholeAnswer plan tells told pieces at len a
whole_answer plan tells told pieces at len front bytes runs a read is range room lines =
    let whole : a.front ≡ length pieces = range.2 ∙ is in
    let all : take a.front pieces ≡ pieces = take_all a.front pieces (omega (arith, whole)) in
    let answer : IsAnswer plan.extents (map publication_of pieces) at len (map run_of a.runs) = subst (IsAnswer plan.extents (map publication_of pieces) at len) (sym lines.same) read.answer in
    let each = answer_lines plan.extents (map publication_of pieces) at len a.runs answer lines.in_row in
    let shown : All (IsLineBy plan tells told pieces) a.runs = λ k d low.
    (let l : RunLine = get_or a.runs k d in
    let one = line_shown plan tells told pieces at len bytes runs (kind_at plan.extents (map publication_of pieces)) l read room (each k d low) in
    record { bytes = line_bytes at bytes l; len = one.0; shown = one.1; sum = lines.sums k d low }) in
    record {
      answer = record {
        at_is = range.0;
        len_is = range.1;
        front = omega (arith, whole);
        runs = subst (λ ps. IsAnswer plan.extents (map publication_of ps) at len (map run_of a.runs)) (sym all) answer;
        in_row = lines.in_row;
        lines = subst (λ ps. All (IsLineBy plan tells told ps) a.runs) (sym all) shown;
      };
      whole = whole;
    }
