-- What lines say.
use Rattle.std.proofs.Common.{◌≡◌, ℕ, zero, suc, ◌+◌, ◌<◌, List, [], ◌∷◌, ◌++◌, length, get_or, map, refl, ap, arith}
use Rattle.aff_model.specs.declared.extent.Extent.{Extent}
use Rattle.aff_plan.specs.Line.{IsExtentLine}
use Rattle.aff_plan.specs.Refused.{AreLinesOf}
use Rattle.aff_plan.specs.Text.{NumberedLine, numbers_of, number_at}
use Rattle.aff_plan.proofs.Fields.{same_extent}

-- lines say one list of extents
pub same_said : (lines : List NumberedLine) (es fs : List Extent) → AreLinesOf lines es → AreLinesOf lines fs → es ≡ fs
same_said [] [] [] p q = refl
same_said [] [] (f ∷ fs) p q = absurd q
same_said [] (e ∷ es) fs p q = absurd p
same_said (l ∷ lines) [] fs p q = absurd p
same_said (l ∷ lines) (e ∷ es) [] p q = absurd q
same_said (l ∷ lines) (e ∷ es) (f ∷ fs) p q =
    let first : e ≡ f = same_extent l.1 e f p.0 q.0 in
    let rest : es ≡ fs = same_said lines es fs p.1 q.1 in
    λ i. first i ∷ rest i

-- one line more
pub said_more : (lines : List NumberedLine) (es : List Extent) (l : NumberedLine) (e : Extent) → AreLinesOf lines es → IsExtentLine l.1 e → AreLinesOf (lines ++ l ∷ []) (es ++ e ∷ [])
said_more [] [] l e said is = (is, tt)
said_more [] (f ∷ es) l e said is = absurd said
said_more (m ∷ lines) [] l e said is = absurd said
said_more (m ∷ lines) (f ∷ es) l e said is = (said.0, said_more lines es l e said.1 is)

-- the extents of some lines, of the one behind them and of those behind that
pub record Parts (before : List NumberedLine) (l : NumberedLine) (after : List NumberedLine) (es : List Extent) : Type 0 where
  pub front : List Extent
  pub extent : Extent
  pub back : List Extent
  pub are : es ≡ front ++ extent ∷ back
  pub said : AreLinesOf before front
  pub is_line : IsExtentLine l.1 extent

pub parts_of : (before : List NumberedLine) (l : NumberedLine) (after : List NumberedLine) (es : List Extent) → AreLinesOf (before ++ l ∷ after) es → Parts before l after es
parts_of [] l after [] said = absurd said
parts_of [] l after (e ∷ es) said = record { front = []; extent = e; back = es; are = refl; said = tt; is_line = said.0 }
parts_of (b ∷ before) l after [] said = absurd said
parts_of (b ∷ before) l after (e ∷ es) said =
    let p = parts_of before l after es said.1 in
    record { front = e ∷ p.front; extent = p.extent; back = p.back; are = ap (λ xs. e ∷ xs) p.are; said = (said.0, p.said); is_line = p.is_line }

-- the line of the k-th extent
pub record PartsAt (lines : List NumberedLine) (es : List Extent) (k : ℕ) : Type 0 where
  pub before : List NumberedLine
  pub line : NumberedLine
  pub after : List NumberedLine
  pub lines_are : lines ≡ before ++ line ∷ after
  pub front : List Extent
  pub extent : Extent
  pub back : List Extent
  pub extents_are : es ≡ front ++ extent ∷ back
  pub said : AreLinesOf before front
  pub is_line : IsExtentLine line.1 extent
  pub place : length front ≡ k
  pub number : number_at lines k ≡ line.0

pub parts_at : (lines : List NumberedLine) (es : List Extent) (k : ℕ) → AreLinesOf lines es → k < length es → PartsAt lines es k
parts_at [] [] k said below = absurd (omega (arith, below))
parts_at [] (e ∷ es) k said below = absurd said
parts_at (l ∷ lines) [] k said below = absurd said
parts_at (l ∷ lines) (e ∷ es) zero said below = record {
  before = [];
  line = l;
  after = lines;
  lines_are = refl;
  front = [];
  extent = e;
  back = es;
  extents_are = refl;
  said = tt;
  is_line = said.0;
  place = refl;
  number = refl;
}
parts_at (l ∷ lines) (e ∷ es) (suc k) said below =
    let p = parts_at lines es k said.1 (omega (arith, below)) in
    record {
      before = l ∷ p.before;
      line = p.line;
      after = p.after;
      lines_are = ap (λ xs. l ∷ xs) p.lines_are;
      front = e ∷ p.front;
      extent = p.extent;
      back = p.back;
      extents_are = ap (λ xs. e ∷ xs) p.extents_are;
      said = (said.0, p.said);
      is_line = p.is_line;
      place = ap suc p.place;
      number = p.number;
    }

-- as many as the lines
pub said_count : (lines : List NumberedLine) (es : List Extent) → AreLinesOf lines es → length lines ≡ length es
said_count [] [] said = refl
said_count [] (e ∷ es) said = absurd said
said_count (l ∷ lines) [] said = absurd said
said_count (l ∷ lines) (e ∷ es) said = ap suc (said_count lines es said.1)
