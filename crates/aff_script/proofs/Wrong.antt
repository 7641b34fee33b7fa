-- A line is taken, or it is refused for one thing.
use Rattle.std.proofs.Common.{◌≡◌, ℕ, List, refl, sym, ap, subst, ◌∙◌}
use Rattle.aff_script.specs.declared.error.ScriptError.{ScriptError}
use Rattle.aff_script.specs.declared.error.ScriptError.TheVariants.{Shape, Number, TooMany, PastEnd, TooLong, Memory}
use Rattle.aff_script.specs.declared.line.Form.{Form}
use Rattle.aff_script.specs.declared.line.Said.{Said}
use Rattle.aff_script.specs.declared.script.Request.{Request}
use Rattle.aff_script.specs.Line.{HasForm, IsLine, LacksNumber, form_of}
use Rattle.aff_script.specs.Reading.{IsTaken}
use Rattle.aff_script.specs.Refused.{HasPlace, IsFull, IsPastEnd, IsTooLong, IsWrong, LacksNumberThere, MayStand, SaysThere}
use Rattle.aff_script.proofs.Forms.{has_form, one_form, same_said, says_no_lack}

module _ (size n : ℕ) (sessions : List (List Request)) (line : List ℕ) where
  place_said : (said : Said) → SaysThere sessions line said → HasPlace sessions line
  place_said said there = let f = has_form line said there.0 in (form_of said, f.0, f.1, f.2, there.1)

  place_lacks : LacksNumberThere sessions line → HasPlace sessions line
  place_lacks (f, may, (a, b, has, lack)) = (f, a, b, has, may)

  said_lacks : (said : Said) → SaysThere sessions line said → ¬ (LacksNumberThere sessions line)
  said_lacks said there (f, may, lacks) = says_no_lack line said f there.0 lacks

  -- another form that the line is of may not stand there either
  pub no_place : (f : Form) (a b : List ℕ) → HasForm line f a b → ¬ (MayStand sessions f) → ¬ (HasPlace sessions line)
  no_place f a b has never (g, c, d, other, may) = never (subst (MayStand sessions) (one_form line g f c d a b other has) may)

  full_full : (s t : Said) → SaysThere sessions line s → SaysThere sessions line t → IsFull sessions s → IsFull sessions t
  full_full s t p q full = subst (IsFull sessions) (same_said line s t p.0 q.0) full

  long_long : (s t : Said) → SaysThere sessions line s → SaysThere sessions line t → IsTooLong s → IsTooLong t
  long_long s t p q long = subst IsTooLong (same_said line s t p.0 q.0) long

  past_past : (s t : Said) → SaysThere sessions line s → SaysThere sessions line t → IsPastEnd size s → IsPastEnd size t
  past_past s t p q past = subst (IsPastEnd size) (same_said line s t p.0 q.0) past

  -- a line that is taken is not wrong
  pub taken_not_wrong : (said : Said) (e : ScriptError) → IsTaken size sessions line said → ¬ (IsWrong size n sessions line e)
  taken_not_wrong said (Shape m) taken wrong = wrong.1 (place_said said taken.there)
  taken_not_wrong said (Number m) taken wrong = said_lacks said taken.there wrong.1
  taken_not_wrong said (TooMany m) taken (at, (other, there, full)) = taken.room (full_full other said there taken.there full)
  taken_not_wrong said (TooLong m) taken (at, (other, there, room, long)) = taken.short (long_long other said there taken.there long)
  taken_not_wrong said (PastEnd m) taken (at, (other, there, room, short, past)) = taken.inside (past_past other said there taken.there past)
  taken_not_wrong said Memory taken wrong = wrong

  -- a line is wrong for one thing
  pub same_wrong : (e f : ScriptError) → IsWrong size n sessions line e → IsWrong size n sessions line f → e ≡ f
  same_wrong (Shape m) (Shape k) p q = ap Shape (p.0 ∙ sym q.0)
  same_wrong (Shape m) (Number k) p q = absurd (p.1 (place_lacks q.1))
  same_wrong (Shape m) (TooMany k) p (at, (s, there, full)) = absurd (p.1 (place_said s there))
  same_wrong (Shape m) (TooLong k) p (at, (s, there, room, long)) = absurd (p.1 (place_said s there))
  same_wrong (Shape m) (PastEnd k) p (at, (s, there, room, short, past)) = absurd (p.1 (place_said s there))
  same_wrong (Shape m) Memory p q = absurd q
  same_wrong (Number m) (Shape k) p q = absurd (q.1 (place_lacks p.1))
  same_wrong (Number m) (Number k) p q = ap Number (p.0 ∙ sym q.0)
  same_wrong (Number m) (TooMany k) p (at, (s, there, full)) = absurd (said_lacks s there p.1)
  same_wrong (Number m) (TooLong k) p (at, (s, there, room, long)) = absurd (said_lacks s there p.1)
  same_wrong (Number m) (PastEnd k) p (at, (s, there, room, short, past)) = absurd (said_lacks s there p.1)
  same_wrong (Number m) Memory p q = absurd q
  same_wrong (TooMany m) (Shape k) (at, (s, there, full)) q = absurd (q.1 (place_said s there))
  same_wrong (TooMany m) (Number k) (at, (s, there, full)) q = absurd (said_lacks s there q.1)
  same_wrong (TooMany m) (TooMany k) p q = ap TooMany (p.0 ∙ sym q.0)
  same_wrong (TooMany m) (TooLong k) (at, (s, there, full)) (by, (t, here, room, long)) = absurd (room (full_full s t there here full))
  same_wrong (TooMany m) (PastEnd k) (at, (s, there, full)) (by, (t, here, room, short, past)) = absurd (room (full_full s t there here full))
  same_wrong (TooMany m) Memory p q = absurd q
  same_wrong (TooLong m) (Shape k) (at, (s, there, room, long)) q = absurd (q.1 (place_said s there))
  same_wrong (TooLong m) (Number k) (at, (s, there, room, long)) q = absurd (said_lacks s there q.1)
  same_wrong (TooLong m) (TooMany k) (at, (s, there, room, long)) (by, (t, here, full)) = absurd (room (full_full t s here there full))
  same_wrong (TooLong m) (TooLong k) p q = ap TooLong (p.0 ∙ sym q.0)
  same_wrong (TooLong m) (PastEnd k) (at, (s, there, room, long)) (by, (t, here, rest, short, past)) = absurd (short (long_long s t there here long))
  same_wrong (TooLong m) Memory p q = absurd q
  same_wrong (PastEnd m) (Shape k) (at, (s, there, room, short, past)) q = absurd (q.1 (place_said s there))
  same_wrong (PastEnd m) (Number k) (at, (s, there, room, short, past)) q = absurd (said_lacks s there q.1)
  same_wrong (PastEnd m) (TooMany k) (at, (s, there, room, short, past)) (by, (t, here, full)) = absurd (room (full_full t s here there full))
  same_wrong (PastEnd m) (TooLong k) (at, (s, there, room, short, past)) (by, (t, here, rest, long)) = absurd (short (long_long t s here there long))
  same_wrong (PastEnd m) (PastEnd k) p q = ap PastEnd (p.0 ∙ sym q.0)
  same_wrong (PastEnd m) Memory p q = absurd q
  same_wrong Memory f p q = absurd p
