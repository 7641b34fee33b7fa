-- The index of a name among sorted entries, found from the front.
use Rattle.std.proofs.Common.{◌≡◌, ℕ, ◌+◌, ◌<◌, ◌≤◌, List, [], ◌∷◌, ◌++◌, length, take, drop, refl, sym, ap, ◌∙◌, Bool, true, false, IsTrue, arith, append_assoc, add-one, get_or, set, drop-cons}
use Rattle.std.proofs.lemmas.List.{take-append-drop, take-set, drop-set, drop_all, get_or_default}
use Rattle.std.proofs.lemmas.List.Edits.{length-insert}
use Rattle.std.proofs.Math.Seq.{take-suc}
use Rattle.std.specs.Prelude.{Option, Some, None, cond, is_some}
use Rattle.std.specs.List.{insert}
use Rattle.std.specs.declared.cmp.Ordering.{Ordering}
use Rattle.std.specs.declared.cmp.Ordering.TheVariants.{Less, Equal, Greater}
use Rattle.std.specs.Ordering.{nat_cmp, is_eq}
use Rattle.std.specs.Cmp.Lexicographic.{slice_cmp, nat_list_cmp_total}
use Rattle.std.specs.FinMap.{find, put, is_sorted, slice_cmp-IsAntisymmetric, nat_cmp-IsAntisymmetric}
use Rattle.std.specs.FinMap.Entries.{length-put, by_order}
use Rattle.aff_memory.specs.Shelf.{StandsAt, IsGap}
use Rattle.aff_memory.proofs.Shelves.{holds}

-- all entries before this index have names below this one
pub record IsPast (es : List (List ℕ × List ℕ)) (name : List ℕ) (i : ℕ) : Type 0 where
  pub found : find (slice_cmp nat_cmp) name es ≡ find (slice_cmp nat_cmp) name (drop i es)
  pub puts : (bytes : List ℕ) → put (slice_cmp nat_cmp) name bytes es ≡ take i es ++ put (slice_cmp nat_cmp) name bytes (drop i es)

pub past_none : (es : List (List ℕ × List ℕ)) (name : List ℕ) → IsPast es name 0
past_none es name = record { found = refl; puts = λ bytes. refl }

split : (es : List (List ℕ × List ℕ)) (i : ℕ) (d : List ℕ × List ℕ) → i < length es → drop i es ≡ get_or es i d ∷ drop (i + 1) es
split es i d h = rw add-one (drop-cons es i d h)

found_at : (es : List (List ℕ × List ℕ)) (name : List ℕ) (i : ℕ) (d : List ℕ × List ℕ) (r : Ordering) → i < length es → slice_cmp nat_cmp name (get_or es i d).0 ≡ r → IsPast es name i
    → find (slice_cmp nat_cmp) name es ≡ cond (is_eq r) (Some (get_or es i d).1) (find (slice_cmp nat_cmp) name (drop (i + 1) es))
found_at es name i d r h is past =
    past.found ∙ ap (find (slice_cmp nat_cmp) name) (split es i d h)
    ∙ ap (λ r. cond (is_eq r) (Some (get_or es i d).1) (find (slice_cmp nat_cmp) name (drop (i + 1) es))) is

put_at : (es : List (List ℕ × List ℕ)) (name : List ℕ) (i : ℕ) (d : List ℕ × List ℕ) (r : Ordering) (bytes : List ℕ) → i < length es → slice_cmp nat_cmp name (get_or es i d).0 ≡ r → IsPast es name i
    → put (slice_cmp nat_cmp) name bytes es
    ≡ take i es ++ by_order r ((name, bytes) ∷ get_or es i d ∷ drop (i + 1) es) (((get_or es i d).0, bytes) ∷ drop (i + 1) es) (get_or es i d ∷ put (slice_cmp nat_cmp) name bytes (drop (i + 1) es))
put_at es name i d r bytes h is past =
    past.puts bytes ∙ ap (λ t. take i es ++ put (slice_cmp nat_cmp) name bytes t) (split es i d h)
    ∙ ap (λ r. take i es ++ by_order r ((name, bytes) ∷ get_or es i d ∷ drop (i + 1) es) (((get_or es i d).0, bytes) ∷ drop (i + 1) es) (get_or es i d ∷ put (slice_cmp nat_cmp) name bytes (drop (i + 1) es))) is

front : (es : List (List ℕ × List ℕ)) (i : ℕ) (d : List ℕ × List ℕ) (rest : List (List ℕ × List ℕ)) → i < length es → take i es ++ get_or es i d ∷ rest ≡ take (i + 1) es ++ rest
front es i d rest h = rw (add-one, take-suc es i d h) (sym (append_assoc (take i es) (get_or es i d ∷ []) rest))

pub past_one : (es : List (List ℕ × List ℕ)) (name : List ℕ) (i : ℕ) (d : List ℕ × List ℕ) → i < length es → slice_cmp nat_cmp name (get_or es i d).0 ≡ Greater → IsPast es name i → IsPast es name (i + 1)
past_one es name i d h is past = record {
  found = found_at es name i d Greater h is past;
  puts = λ bytes. put_at es name i d Greater bytes h is past ∙ front es i d _ h;
}

one_more : (b : Bool) (n m : ℕ) → m ≡ cond b n (n + 1) → m ≡ n + 1 → b ≡ false
one_more true n m e f = absurd (omega arith)
one_more false n m e f = refl

none : (o : Option (List ℕ)) → is_some o ≡ false → o ≡ None
none None e = refl
none (Some x) e = absurd (cc e)

gap : (es : List (List ℕ × List ℕ)) (name : List ℕ) (i : ℕ) → i ≤ length es → IsTrue (is_sorted (slice_cmp nat_cmp) es)
    → ((bytes : List ℕ) → put (slice_cmp nat_cmp) name bytes es ≡ insert es i (name, bytes)) → IsGap es name i
gap es name i h sorted puts = record {
  inside = h;
  missing = none _ (one_more _ _ _ (length-put (slice_cmp nat_cmp) nat_list_cmp_total name [] es (holds _ sorted)) (ap length (puts []) ∙ length-insert es i (name, []) h));
  set = puts;
}

pub gap_before : (es : List (List ℕ × List ℕ)) (name : List ℕ) (i : ℕ) (e : List ℕ × List ℕ) → i < length es → e ≡ get_or es i e → slice_cmp nat_cmp name e.0 ≡ Less → IsTrue (is_sorted (slice_cmp nat_cmp) es)
    → IsPast es name i → IsGap es name i
gap_before es name i e h at is sorted past =
    let less : slice_cmp nat_cmp name (get_or es i e).0 ≡ Less = ap (λ (x : List ℕ × List ℕ). slice_cmp nat_cmp name x.0) (sym at) ∙ is in
    gap es name i (omega arith) sorted (λ bytes. put_at es name i e Less bytes h less past ∙ ap (λ t. take i es ++ (name, bytes) ∷ t) (sym (split es i e h)))

pub gap_behind : (es : List (List ℕ × List ℕ)) (name : List ℕ) (i : ℕ) → length es ≤ i → i ≤ length es → IsTrue (is_sorted (slice_cmp nat_cmp) es) → IsPast es name i → IsGap es name i
gap_behind es name i end h sorted past =
    gap es name i h sorted (λ bytes. past.puts bytes ∙ ap (λ t. take i es ++ put (slice_cmp nat_cmp) name bytes t) (drop_all i es end) ∙ ap (λ t. take i es ++ (name, bytes) ∷ t) (sym (drop_all i es end)))

set_parts : (es : List (List ℕ × List ℕ)) (i : ℕ) (y : List ℕ × List ℕ) → i < length es → set es i y ≡ take i es ++ y ∷ drop (i + 1) es
set_parts es i y h = sym (take-append-drop i (set es i y)) ∙ ap (λ t. t ++ drop i (set es i y)) (take-set es i y) ∙ ap (λ t. take i es ++ t) (drop-set es i y h)

pub stands_at : (es : List (List ℕ × List ℕ)) (name : List ℕ) (i : ℕ) (e : List ℕ × List ℕ) → i < length es → e ≡ get_or es i e → slice_cmp nat_cmp name e.0 ≡ Equal → IsPast es name i → StandsAt es name i
stands_at es name i e h at is past =
    let any = λ (d : List ℕ × List ℕ). get_or_default es i d e h ∙ sym at in
    let equal = λ (d : List ℕ × List ℕ). ap (λ (x : List ℕ × List ℕ). slice_cmp nat_cmp name x.0) (any d) ∙ is in
    let key = λ (d : List ℕ × List ℕ). sym (slice_cmp-IsAntisymmetric nat_cmp-IsAntisymmetric name (get_or es i d).0 (equal d)) in
    record {
      inside = h;
      found = λ d. found_at es name i d Equal h (equal d) past;
      key = key;
      set = λ bytes. put_at es name i e Equal bytes h (equal e) past
          ∙ ap (λ k. take i es ++ (k, bytes) ∷ drop (i + 1) es) (key e)
          ∙ sym (set_parts es i (name, bytes) h);
    }
