-- Runs of one kind, one more at their end.
use Rattle.std.proofs.Common.{◌≡◌, ◌≢◌, ℕ, ◌+◌, ◌<◌, ◌≤◌, inl, inr, List, [], ◌∷◌, ◌++◌, length, get_or, set, take, replicate, sym, ap, subst, ◌∙◌, arith}
use Rattle.std.proofs.lemmas.Bool.{cases_eq}
use Rattle.std.proofs.lemmas.List.{append_assoc, replicate-append-replicate, take_more, take_all, take_more_set, get_or-set_same, get_or-set_other, get_or_append_left, get_or_push, get_or_read, length-set, length_push, length-replicate, length-append, flat_map_more, get_or_default}
use Rattle.aff_model.specs.declared.cell.Kind.{Kind}
use Rattle.aff_model.specs.declared.cell.Kind.TheVariants.{Unknown}
use Rattle.aff_model.specs.declared.cell.Run.{Run}
use Rattle.aff_model.specs.Kinds.{AreGreatest, spread}

abbrev pub nothing : Run
nothing = record { len = 0; kind = Unknown }

pub spread-push : (runs : List Run) (r : Run) → spread (runs ++ r ∷ []) ≡ spread runs ++ replicate r.len r.kind
spread-push runs r = sym (flat_map_more (λ (s : Run). replicate s.len s.kind) [] runs r)

-- a list that is not empty, by its last run
last-is : (runs : List Run) (i : ℕ) → i + 1 ≡ length runs → take i runs ++ get_or runs i nothing ∷ [] ≡ runs
last-is runs i is =
    let b : i < length runs = omega arith in
    sym (take_more runs i nothing b) ∙ take_all (i + 1) runs (omega arith)

set-last : (runs : List Run) (i : ℕ) (r : Run) → i + 1 ≡ length runs → set runs i r ≡ take i runs ++ r ∷ []
set-last runs i r is =
    let b : i < length runs = omega arith in
    let n = length-set runs i r in
    sym (take_all (i + 1) (set runs i r) (omega arith)) ∙ take_more_set runs i r b

pub spread-grow : (runs : List Run) (i len : ℕ) (kind : Kind) → i + 1 ≡ length runs → (get_or runs i nothing).kind ≡ kind → spread (set runs i (record { len = (get_or runs i nothing).len + len; kind = kind })) ≡ spread runs ++ replicate len kind
spread-grow runs i len kind is same =
    let last = get_or runs i nothing in
    let r : Run = record { len = last.len + len; kind = kind } in
    let front = spread (take i runs) in
    let more : replicate (last.len + len) kind ≡ replicate last.len kind ++ replicate len kind = sym (replicate-append-replicate last.len len kind) in
    let had : spread runs ≡ front ++ replicate last.len last.kind = ap spread (sym (last-is runs i is)) ∙ spread-push (take i runs) last in
    let had_kind : spread runs ≡ front ++ replicate last.len kind = had ∙ ap (λ k. front ++ replicate last.len k) same in
    ap spread (set-last runs i r is) ∙ spread-push (take i runs) r ∙ ap (λ l. front ++ l) more ∙ sym (append_assoc front (replicate last.len kind) (replicate len kind)) ∙ ap (λ l. l ++ replicate len kind) (sym had_kind)

-- the last run is no longer than all
pub last-short : (runs : List Run) (i : ℕ) → i + 1 ≡ length runs → (get_or runs i nothing).len ≤ length (spread runs)
last-short runs i is =
    let last = get_or runs i nothing in
    let had : spread runs ≡ spread (take i runs) ++ replicate last.len last.kind = ap spread (sym (last-is runs i is)) ∙ spread-push (take i runs) last in
    let n : length (spread runs) ≡ length (spread (take i runs) ++ replicate last.len last.kind) = ap length had in
    let m = length-append (spread (take i runs)) (replicate last.len last.kind) in
    let k = length-replicate last.len last.kind in
    omega (arith, n, m, k)

-- a run of another kind at the end
pub greatest-push : (runs : List Run) (r : Run) → AreGreatest runs → 0 < r.len → ((i : ℕ) → i + 1 ≡ length runs → (get_or runs i nothing).kind ≢ r.kind) → AreGreatest (runs ++ r ∷ [])
greatest-push runs r g some other = record {
  some = λ k d b. elim (cases_eq k (length runs)) [
    | inl same ↦ (let at : get_or (runs ++ r ∷ []) k d ≡ r = get_or_push runs r d k (sym same) in let P : Run → Type 0 = λ s. 0 < s.len in subst P (sym at) some)
    | inr differ ↦ (let n = length_push runs r in let before : k < length runs = omega arith in
        let at : get_or (runs ++ r ∷ []) k d ≡ get_or runs k d = get_or_append_left runs (r ∷ []) d k before in
        let P : Run → Type 0 = λ s. 0 < s.len in subst P (sym at) (g.some k d before))
  ];
  apart = λ k d b. (let n = length_push runs r in let before : k < length runs = omega arith in
      let at : get_or (runs ++ r ∷ []) k d ≡ get_or runs k d = get_or_append_left runs (r ∷ []) d k before in
      elim (cases_eq (k + 1) (length runs)) [
        | inl last ↦ (let next : get_or (runs ++ r ∷ []) (k + 1) d ≡ r = get_or_push runs r d (k + 1) (sym last) in
            λ e. other k last (ap (λ (s : Run). s.kind) (get_or_default runs k nothing d before ∙ sym at) ∙ e ∙ ap (λ (s : Run). s.kind) next))
        | inr inner ↦ (let within : k + 1 < length runs = omega arith in
            let next : get_or (runs ++ r ∷ []) (k + 1) d ≡ get_or runs (k + 1) d = get_or_append_left runs (r ∷ []) d (k + 1) within in
            λ e. g.apart k d within (ap (λ (s : Run). s.kind) (sym at) ∙ e ∙ ap (λ (s : Run). s.kind) next))
      ]);
}

kind_kept : (runs : List Run) (i : ℕ) (r : Run) → i < length runs → (get_or runs i nothing).kind ≡ r.kind → (k : ℕ) (d : Run) → (get_or (set runs i r) k d).kind ≡ (get_or runs k d).kind
kind_kept runs i r b same k d = elim (cases_eq k i) [
  | inl at ↦ ap (λ n. (get_or (set runs i r) n d).kind) at ∙ ap (λ (s : Run). s.kind) (get_or-set_same runs i r d b) ∙ sym same ∙ ap (λ (s : Run). s.kind) (get_or_default runs i nothing d b) ∙ ap (λ n. (get_or runs n d).kind) (sym at)
  | inr other ↦ ap (λ (s : Run). s.kind) (get_or-set_other runs i k r d other)
]

-- a longer run in the place of one of its kind
pub greatest-grow : (runs : List Run) (i : ℕ) (r : Run) → AreGreatest runs → i < length runs → 0 < r.len → (get_or runs i nothing).kind ≡ r.kind → AreGreatest (set runs i r)
greatest-grow runs i r g b some same = record {
  some = λ k d l. elim (cases_eq k i) [
    | inl at ↦ (let x : get_or (set runs i r) k d ≡ r = ap (λ n. get_or (set runs i r) n d) at ∙ get_or-set_same runs i r d b in
        let P : Run → Type 0 = λ s. 0 < s.len in subst P (sym x) some)
    | inr other ↦ (let n = length-set runs i r in let x : get_or (set runs i r) k d ≡ get_or runs k d = get_or-set_other runs i k r d other in
        let P : Run → Type 0 = λ s. 0 < s.len in subst P (sym x) (g.some k d (omega arith)))
  ];
  apart = λ k d l e. (let n = length-set runs i r in g.apart k d (omega arith) (sym (kind_kept runs i r b same k d) ∙ e ∙ kind_kept runs i r b same (k + 1) d));
}

-- the last run of the list as the code reads it, twice: for its kind and for its length
pub record IsGrown (runs : List Run) (i len : ℕ) (kind : Kind) (r : Run) : Type 0 where
  pub kinds : spread (set runs i (record { len = r.len + len; kind = kind })) ≡ spread runs ++ replicate len kind
  pub greatest : AreGreatest (set runs i (record { len = r.len + len; kind = kind }))

pub grown : (runs : List Run) (i len : ℕ) (kind : Kind) (r s : Run) → AreGreatest runs → 0 < len → i + 1 ≡ length runs → r ≡ get_or runs i r → s ≡ get_or runs i s → s.kind ≡ kind → IsGrown runs i len kind r
grown runs i len kind r s g some is read seen same =
    let b : i < length runs = omega arith in
    let last : r ≡ get_or runs i nothing = get_or_read runs i r b read nothing in
    let of_kind : (get_or runs i nothing).kind ≡ kind = ap (λ (x : Run). x.kind) (sym (get_or_read runs i s b seen nothing)) ∙ same in
    let P : Run → Type 0 = λ x. IsGrown runs i len kind x in
    subst P (sym last) (record {
      kinds = spread-grow runs i len kind is of_kind;
      greatest = greatest-grow runs i (record { len = (get_or runs i nothing).len + len; kind = kind }) g b (omega arith) of_kind;
    })

pub fits-last : (runs : List Run) (i : ℕ) (r : Run) → i + 1 ≡ length runs → r ≡ get_or runs i r → r.len ≤ length (spread runs)
fits-last runs i r is read =
    let b : i < length runs = omega arith in
    let P : Run → Type 0 = λ x. x.len ≤ length (spread runs) in
    subst P (sym (get_or_read runs i r b read nothing)) (last-short runs i is)

-- the last run is of another kind
pub other-last : (runs : List Run) (i : ℕ) (kind : Kind) (s : Run) → i + 1 ≡ length runs → s ≡ get_or runs i s → s.kind ≢ kind → (get_or runs i nothing).kind ≢ kind
other-last runs i kind s is seen other e =
    let b : i < length runs = omega arith in
    other (ap (λ (x : Run). x.kind) (get_or_read runs i s b seen nothing) ∙ e)
