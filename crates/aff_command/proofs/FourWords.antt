-- Words that are none of an acquisition's.
use Rattle.std.proofs.Common.{zero, suc, ◌≡◌, ◌≢◌, ◌==◌, ℕ, ◌<◌, ◌≤◌, true, false, List, [], ◌∷◌, length, get_or, map, refl, sym, ap, subst, ◌∙◌, arith, Bor}
use Rattle.std.specs.List.{list_any}
use Rattle.std.proofs.lemmas.List.{get_or-map, length-map}
use Rattle.std.proofs.lemmas.List.Folds.{Any-from_list_any, list_any_at}
use Rattle.aff_spec.specs.Words.{is_uuid}
use Rattle.aff_command.specs.CommandLine.{IsAcquire, IsCommand, uuid_of}

-- the words of an acquisition are four at least, begin with its command, and the third of them is a UUID
module _ (ws : List (Bor (List ℕ))) (d : Bor (List ℕ)) (block : ℕ) (is : IsAcquire block (map (λ w. w.now) ws)) where
  word : (k : ℕ) → k < length ws → (get_or ws k d).now ≡ get_or (map (λ w. w.now) ws) k []
  word k below = sym (get_or-map (λ w. w.now) ws k d [] below)

  pub four_words : 4 ≤ length ws
  four_words = omega (arith, sym (length-map ws (λ (w : Bor (List ℕ)). w.now)) ∙ ap length is.are)

  pub command_of : IsCommand block (get_or ws 0 d).now
  command_of = subst (IsCommand block) (sym (word 0 (omega (arith, four_words)) ∙ ap (λ v. get_or v 0 []) is.are)) is.is_command

  pub uuid_there : is_uuid (get_or ws 2 d).now ≡ true
  uuid_there = ap is_uuid (word 2 (omega (arith, four_words)) ∙ ap (λ v. get_or v 2 []) is.are) ∙ is.uuid_is

  pub no_empty : (k : ℕ) → k < length ws → (get_or ws k d).now ≢ []
  no_empty k below none = is.full k [] (omega (arith, below, length-map ws (λ (w : Bor (List ℕ)). w.now))) (sym (word k below) ∙ none)

empty : (n : ℕ) → n ≡ 0 → (n == 0) ≡ true
empty n is = ap (λ m. m == 0) is

pub no_length : (xs : List ℕ) → (length xs == 0) ≡ true → xs ≡ []
no_length [] is = refl
no_length (x ∷ xs) is = grind (arith, is)

-- no word is empty, where none was found
pub full_from : (ws : List (Bor (List ℕ))) (d : Bor (List ℕ)) → list_any (λ w. length w.now == 0) ws ≡ false → (k : ℕ) → k < length ws → 0 < length (get_or ws k d).now
full_from ws d none k below = above (length (get_or ws k d).now) (λ is. list_any_at (λ (w : Bor (List ℕ)). length w.now == 0) ws k d below (empty _ is))
  where
    above : (n : ℕ) → (n ≡ 0 → list_any (λ (w : Bor (List ℕ)). length w.now == 0) ws ≡ true) → 0 < n
    above zero found = absurd (cc (found refl, none))
    above (suc n) found = omega arith

-- the words are none of an acquisition's, where one is empty
pub not_empty : (ws : List (Bor (List ℕ))) (d : Bor (List ℕ)) (block : ℕ) → IsAcquire block (map (λ w. w.now) ws) → list_any (λ w. length w.now == 0) ws ≡ true → ⊥
not_empty ws d block is found =
    let a = Any-from_list_any (λ (w : Bor (List ℕ)). length w.now == 0) ws found in
    let none : a.1.now ≡ [] = no_length a.1.now a.4 in
    no_empty ws a.1 block is a.0 a.2 (ap (λ (w : Bor (List ℕ)). w.now) a.3 ∙ none)

-- four words or more, none of them empty, with a command and a UUID in their places
pub acquire_from : (ws : List (Bor (List ℕ))) (d : Bor (List ℕ)) (block : ℕ) → 4 ≤ length ws → ((k : ℕ) → k < length ws → 0 < length (get_or ws k d).now) → IsCommand block (get_or ws 0 d).now
    → is_uuid (get_or ws 2 d).now ≡ true → IsAcquire block (map (λ w. w.now) ws) × ((get_or ws 2 d).now ≡ uuid_of (map (λ w. w.now) ws))
acquire_from (a ∷ b ∷ u ∷ e ∷ ws) d block four full command ok = (
  record {
    command = a.now;
    folder = b.now;
    uuid = u.now;
    device = e.now;
    others = map (λ w. w.now) ws;
    are = refl;
    is_command = command;
    uuid_is = ok;
    full = λ k x low none.
        let all : List (Bor (List ℕ)) = a ∷ b ∷ u ∷ e ∷ ws in
        let below : k < length all = omega (arith, low, length-map all (λ (w : Bor (List ℕ)). w.now)) in
        let same = get_or-map (λ (w : Bor (List ℕ)). w.now) all k d x below in
        absurd (omega (arith, full k below, ap length (sym same ∙ none)));
  },
  refl,
)
acquire_from [] d block four full command ok = absurd (omega (arith, four))
acquire_from (a ∷ []) d block four full command ok = absurd (omega (arith, four))
acquire_from (a ∷ b ∷ []) d block four full command ok = absurd (omega (arith, four))
acquire_from (a ∷ b ∷ u ∷ []) d block four full command ok = absurd (omega (arith, four))
