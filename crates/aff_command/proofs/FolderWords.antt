-- Words that ask something of a finished volume.
use Rattle.std.proofs.Common.{zero, suc, ◌≡◌, ◌≢◌, ◌==◌, ℕ, ◌<◌, ◌^◌, true, List, [], ◌∷◌, length, get_or, map, sym, ap, subst, ◌∙◌, arith, Bor, codes, All}
use Rattle.std.specs.Prelude.{Option, Some, None, IfSome, IfNone}
use Rattle.std.specs.Fmt.{decimal}
use Rattle.std.specs.List.{list_any}
use Rattle.std.proofs.lemmas.Fmt.{decimal_nonempty}
use Rattle.std.proofs.lemmas.List.{get_or-map, length-map}
use Rattle.std.proofs.lemmas.List.Folds.{Any-from_list_any}
use Rattle.aff_command.specs.declared.wanted.Offline.{Offline}
use Rattle.aff_command.specs.declared.wanted.Offline.TheVariants.{Read, Info, Verify}
use Rattle.aff_command.specs.Finished.{AreOffline, IsNamed, IsOffline, IsOfFolder, IsRange}
use Rattle.aff_command.proofs.FourWords.{no_length}

all_two : (a b : List ℕ) → a ≢ [] → b ≢ [] → All (λ w. w ≢ []) (a ∷ b ∷ [])
all_two a b p q zero d low = p
all_two a b p q (suc zero) d low = q
all_two a b p q (suc (suc k)) d low = absurd (omega (arith, low))

all_four : (a b e f : List ℕ) → a ≢ [] → b ≢ [] → e ≢ [] → f ≢ [] → All (λ w. w ≢ []) (a ∷ b ∷ e ∷ f ∷ [])
all_four a b e f p q r s zero d low = p
all_four a b e f p q r s (suc zero) d low = q
all_four a b e f p q r s (suc (suc zero)) d low = r
all_four a b e f p q r s (suc (suc (suc zero))) d low = s
all_four a b e f p q r s (suc (suc (suc (suc k)))) d low = absurd (omega (arith, low))

some_number : (n : ℕ) → n < 2 ^ 64 → decimal n ≢ []
some_number n small none = absurd (omega (arith, decimal_nonempty n small, ap length none))

two_full : (command : List ℕ) (words : List (List ℕ)) → command ≢ [] → IsOfFolder command words → All (λ w. w ≢ []) words
two_full command words some is = subst (All (λ w. w ≢ [])) (sym is.are) (all_two command is.folder some is.full)

-- none of them is empty
full_words : (asked : Offline) (words : List (List ℕ)) → IsOffline asked words → All (λ w. w ≢ []) words
full_words (Read at len) words is =
    subst (All (λ w. w ≢ [])) (sym is.are)
    (all_four (codes "read") is.folder (decimal at) (decimal len) (λ none. absurd (omega (arith, ap length none))) is.full (some_number at is.at_fits) (some_number len is.len_fits))
full_words Info words is = two_full (codes "info") words (λ none. absurd (omega (arith, ap length none))) is
full_words Verify words is = two_full (codes "verify") words (λ none. absurd (omega (arith, ap length none))) is

pub none_empty : (ws : List (Bor (List ℕ))) (d : Bor (List ℕ)) → AreOffline (map (λ w. w.now) ws) → list_any (λ w. length w.now == 0) ws ≡ true → ⊥
none_empty ws d are found =
    let a = Any-from_list_any (λ (w : Bor (List ℕ)). length w.now == 0) ws found in
    let none : a.1.now ≡ [] = no_length a.1.now a.4 in
    let there : a.0 < length (map (λ (w : Bor (List ℕ)). w.now) ws) = omega (arith, a.2, length-map ws (λ (w : Bor (List ℕ)). w.now)) in
    full_words are.0 (map (λ w. w.now) ws) are.1 a.0 [] there (get_or-map (λ (w : Bor (List ℕ)). w.now) ws a.0 a.1 [] a.2 ∙ ap (λ (w : Bor (List ℕ)). w.now) a.3 ∙ none)

full_at : (ws : List (Bor (List ℕ))) (d : Bor (List ℕ)) → ((k : ℕ) → k < length ws → 0 < length (get_or ws k d).now) → (k : ℕ) → k < length ws → (get_or ws k d).now ≢ []
full_at ws d full k low none = absurd (omega (arith, full k low, ap length none))

-- two words, of which none is empty, ask what their first says
pub two_from : (ws : List (Bor (List ℕ))) (d : Bor (List ℕ)) → length ws ≡ 2 → ((k : ℕ) → k < length ws → 0 < length (get_or ws k d).now) → (asked : Offline)
    → IsNamed asked (get_or ws 0 d).now → IsOffline asked (map (λ w. w.now) ws)
two_from (a ∷ b ∷ []) d two full Info is = record { folder = b.now; are = ap (λ v. v ∷ b.now ∷ []) is; full = full_at (a ∷ b ∷ []) d full 1 (omega arith) }
two_from (a ∷ b ∷ []) d two full Verify is = record { folder = b.now; are = ap (λ v. v ∷ b.now ∷ []) is; full = full_at (a ∷ b ∷ []) d full 1 (omega arith) }
two_from (a ∷ b ∷ []) d two full (Read at len) is = absurd is
two_from [] d two full asked is = absurd (omega (arith, two))
two_from (a ∷ []) d two full asked is = absurd (omega (arith, two))
two_from (a ∷ b ∷ e ∷ ws) d two full asked is = absurd (omega (arith, two))

pub two_to : (ws : List (Bor (List ℕ))) (d : Bor (List ℕ)) → length ws ≡ 2 → (asked : Offline) → IsOffline asked (map (λ w. w.now) ws) → IsNamed asked (get_or ws 0 d).now
two_to (a ∷ ws) d two Info is = ap (λ v. get_or v 0 []) is.are
two_to (a ∷ ws) d two Verify is = ap (λ v. get_or v 0 []) is.are
two_to (a ∷ ws) d two (Read at len) is = absurd (omega (arith, two, length-map ws (λ (w : Bor (List ℕ)). w.now), ap length is.are))
two_to [] d two asked is = absurd (omega (arith, two))

-- four words, of which none is empty, ask what the first and the last two say
pub four_from : (ws : List (Bor (List ℕ))) (d : Bor (List ℕ)) → length ws ≡ 4 → ((k : ℕ) → k < length ws → 0 < length (get_or ws k d).now) → (asked : Offline)
    → IsRange asked (get_or ws 0 d).now (get_or ws 2 d).now (get_or ws 3 d).now → IsOffline asked (map (λ w. w.now) ws)
four_from (a ∷ b ∷ e ∷ f ∷ []) d four full (Read at len) is = record {
  folder = b.now;
  are = λ i. is.0 i ∷ b.now ∷ is.1.1 i ∷ is.2.1 i ∷ [];
  full = full_at (a ∷ b ∷ e ∷ f ∷ []) d full 1 (omega arith);
  at_fits = is.1.0;
  len_fits = is.2.0;
}
four_from (a ∷ b ∷ e ∷ f ∷ []) d four full Info is = absurd is
four_from (a ∷ b ∷ e ∷ f ∷ []) d four full Verify is = absurd is
four_from [] d four full asked is = absurd (omega (arith, four))
four_from (a ∷ []) d four full asked is = absurd (omega (arith, four))
four_from (a ∷ b ∷ []) d four full asked is = absurd (omega (arith, four))
four_from (a ∷ b ∷ e ∷ []) d four full asked is = absurd (omega (arith, four))
four_from (a ∷ b ∷ e ∷ f ∷ g ∷ ws) d four full asked is = absurd (omega (arith, four))

pub four_to : (ws : List (Bor (List ℕ))) (d : Bor (List ℕ)) → length ws ≡ 4 → (asked : Offline) → IsOffline asked (map (λ w. w.now) ws)
    → IsRange asked (get_or ws 0 d).now (get_or ws 2 d).now (get_or ws 3 d).now
four_to (a ∷ b ∷ e ∷ f ∷ ws) d four (Read at len) is =
    (ap (λ v. get_or v 0 []) is.are, (is.at_fits, ap (λ v. get_or v 2 []) is.are), (is.len_fits, ap (λ v. get_or v 3 []) is.are))
four_to (a ∷ b ∷ e ∷ f ∷ ws) d four Info is = absurd (omega (arith, ap length is.are))
four_to (a ∷ b ∷ e ∷ f ∷ ws) d four Verify is = absurd (omega (arith, ap length is.are))
four_to [] d four asked is = absurd (omega (arith, four))
four_to (a ∷ []) d four asked is = absurd (omega (arith, four))
four_to (a ∷ b ∷ []) d four asked is = absurd (omega (arith, four))
four_to (a ∷ b ∷ e ∷ []) d four asked is = absurd (omega (arith, four))

-- what was found is asked, and where nothing was found nothing is
pub each_some : (r : Option Offline) (P Q : Offline → Type 0) → ((asked : Offline) → P asked → Q asked) → IfSome r P → IfSome r Q
each_some (Some asked) P Q to is = to asked is
each_some None P Q to is = tt

pub none_asked : (r : Option Offline) (P Q : Offline → Type 0) → ((asked : Offline) → Q asked → P asked) → IfNone r ((asked : Offline) → ¬ (P asked)) → IfNone r (¬ ((asked : Offline) × Q asked))
none_asked (Some asked) P Q to is = tt
none_asked None P Q to is = λ are. is are.0 (to are.0 are.1)
