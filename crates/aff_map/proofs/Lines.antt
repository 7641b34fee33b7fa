-- The targets of lines that were read so far.
use Rattle.std.proofs.Common.{◌≡◌, ℕ, ◌+◌, ◌<◌, List, [], ◌∷◌, ◌++◌, length, map, get_or, take, refl, ap, subst, sym, ◌∙◌, arith, length-append, codes, All}
use Rattle.std.specs.Prelude.{Option, Some, None, IsSome}
use Rattle.std.specs.List.{cons_option, filter_map}
use Rattle.std.proofs.lemmas.List.{get_or_default, map-append}
use Rattle.std.proofs.lemmas.List.Elements.{All-append, All-cons, All-nil, filter_map-append}
use Rattle.aff_spec.specs.Lines.{lines_of}
use Rattle.aff_spec.specs.Volumes.{targets_text}
use Rattle.aff_map.specs.declared.target.Target.{Target}
use Rattle.aff_map.specs.Targets.{IsFirstUnnamed, IsNamed, target_lines, target_of, without_last_feed}

filter_map-more : (h : List ℕ → Option Target) (xs : List (List ℕ)) (x : List ℕ) (t : Target) → h x ≡ Some t → filter_map h (xs ++ x ∷ []) ≡ filter_map h xs ++ t ∷ []
filter_map-more h xs x t is = filter_map-append h xs (x ∷ []) ∙ ap (λ o. filter_map h xs ++ cons_option o []) is

named-more : (stream : List ℕ) (xs : List (List ℕ)) (x : List ℕ) (t : Target) → All (IsNamed stream) xs → target_of stream x ≡ Some t → All (IsNamed stream) (xs ++ x ∷ [])
named-more stream xs x t named is =
    let here : IsNamed stream x = subst (IsSome {T = Target}) (sym is) refl in
    All-append (IsNamed stream) xs (x ∷ []) named (All-cons (IsNamed stream) x [] here (All-nil (IsNamed stream)))

-- lines that were read, as what an iterator yielded
module _ {L : Type 0} (line : L → List ℕ) (stream : List ℕ) where
  -- targets are those of the lines so far
  pub record AreRead (seen : List L) (targets : List Target) : Type 0 where
    pub targets_are : targets ≡ filter_map (target_of stream) (map line seen)
    pub named : All (IsNamed stream) (map line seen)
    pub count : length targets ≡ length seen

  pub AreRead-none : AreRead [] []
  AreRead-none = record { targets_are = refl; named = All-nil (IsNamed stream); count = refl }

  pub AreRead-more : (seen : List L) (x : L) (targets new : List Target) (t : Target) → AreRead seen targets → target_of stream (line x) ≡ Some t → new ≡ targets ++ t ∷ [] → AreRead (seen ++ x ∷ []) new
  AreRead-more seen x targets new t read is pushed =
      let grown : map line (seen ++ x ∷ []) ≡ map line seen ++ line x ∷ [] = map-append line seen (x ∷ []) in
      let all : targets ++ t ∷ [] ≡ filter_map (target_of stream) (map line (seen ++ x ∷ [])) =
      ap (λ v. v ++ t ∷ []) read.targets_are ∙ sym (filter_map-more (target_of stream) (map line seen) (line x) t is) ∙ sym (ap (filter_map (target_of stream)) grown) in
      record {
        targets_are = pushed ∙ all;
        named = subst (All (IsNamed stream)) (sym grown) (named-more stream (map line seen) (line x) t read.named is);
        count = ap length pushed ∙ omega (arith, length-append targets (t ∷ []), length-append seen (x ∷ []), read.count);
      }

  -- all lines were read
  pub AreRead-all : (seen : List L) (targets : List Target) (lines : List (List ℕ)) → AreRead seen targets → map line seen ≡ lines → (targets ≡ filter_map (target_of stream) lines) × All (IsNamed stream) lines
  AreRead-all seen targets lines read all =
      (read.targets_are ∙ ap (filter_map (target_of stream)) all, subst (All (IsNamed stream)) all read.named)

  -- the next line names no target
  pub first_unnamed : (seen : List L) (targets : List Target) (lines : List (List ℕ)) (x : L) → AreRead seen targets → map line seen ≡ take (length seen) lines → length seen < length lines → line x ≡ get_or lines (length seen) (line x) → target_of stream (line x) ≡ None → IsFirstUnnamed stream lines (length targets + 1)
  first_unnamed seen targets lines x read prefix there is none =
      record {
        index = length seen;
        from_one = ap (λ m. m + 1) read.count;
        there = there;
        before = subst (All (IsNamed stream)) prefix read.named;
        unnamed = ap (target_of stream) (sym (is ∙ get_or_default lines (length seen) (line x) [] there)) ∙ none;
      }

-- the lines of no bytes, and of some
pub target_lines-none : (idx : List ℕ) → length idx ≡ 0 → target_lines idx ≡ []
target_lines-none [] h = refl
target_lines-none (b ∷ text) h = absurd (omega (arith, h))

pub target_lines-some : (idx : List ℕ) → 0 < length idx → target_lines idx ≡ lines_of (without_last_feed idx)
target_lines-some [] h = absurd (omega (arith, h))
target_lines-some (b ∷ text) h = refl

-- the list of targets as it is written: the stream, and what is the same in each volume
pub targets_text_is : (stream : List ℕ) → targets_text stream ≡ stream ++ codes "\nhttp://aff4.org/Schema#Zero\nhttp://aff4.org/Schema#UnreadableData\n"
unfolding targets_text
targets_text_is stream = refl
