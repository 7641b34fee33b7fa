-- The code of what contracts see of a book: pages with one code are one.
use mathlib.Core.Path.{refl}
use mathlib.Core.Logic.{inl, inr}
use base.Stored.{Coded, coded×, coded⊎, coded_unit, coded_ℕ, coded_bool, coded_list}
use Rattle.std.specs.Coded.{code_by, coded_option}
use Rattle.std.specs.FinMap as map
use Rattle.std.specs.Prelude.{ℕ, ◌≡◌, ◌⊎◌, Bool, List, Option}
use Rattle.aff_model.specs.Held.{Held}
use Rattle.aff_model.specs.History.{Part}
use Rattle.aff_claim.specs.declared.view.BookView.{BookView}
use Rattle.aff_claim.specs.declared.word.Word.{Word}
use Rattle.aff_claim.specs.declared.word.Word.TheVariants.{Free, Claimed, Published}
use Rattle.aff_snapshot.specs.Codes.{piece_code}
use Rattle.aff_store.specs.Written.{Written}
use Rattle.aff_book.specs.Pages.{Pages}

-- a word is free, or has one of two numbers
abbrev pub word_case : Word → Unit {0} ⊎ (ℕ ⊎ ℕ)
word_case Free = inl tt
word_case (Claimed k) = inr (inl k)
word_case (Published k) = inr (inr k)

abbrev pub word_in : Unit {0} ⊎ (ℕ ⊎ ℕ) → Word
word_in (inl _) = Free
word_in (inr (inl k)) = Claimed k
word_in (inr (inr k)) = Published k

abbrev pub word_back : (word : Word) → word_in (word_case word) ≡ word
word_back Free = refl
word_back (Claimed k) = refl
word_back (Published k) = refl

abbrev pub word_code : Coded Word
word_code = code_by (Unit {0} ⊎ (ℕ ⊎ ℕ)) (coded⊎ coded_unit (coded⊎ coded_ℕ coded_ℕ)) word_case word_in word_back

-- what the seat knows is its fields
abbrev pub seat_code : Coded BookView
seat_code =
    code_by (ℕ × (Option ℕ × (List (ℕ × ℕ) × (List ℕ × List (ℕ × Word)))))
    (coded× coded_ℕ (coded× (coded_option coded_ℕ) (coded× (coded_list (coded× coded_ℕ coded_ℕ)) (coded× (coded_list coded_ℕ) (coded_list (coded× coded_ℕ word_code))))))
    (λ s. (s.made, (s.drawn, (s.held, (s.out, s.found)))))
    (λ f. record { made = f.0; drawn = f.1.0; held = f.1.1.0; out = f.1.1.1.0; found = f.1.1.1.1 }) (λ _. refl)

-- so is a stream
abbrev pub stream_code : Coded Written
stream_code =
    code_by (List ℕ × (List (List ℕ) × Bool)) (coded× (coded_list coded_ℕ) (coded× (coded_list (coded_list coded_ℕ)) coded_bool))
    (λ s. (s.urn, (s.chunks, s.ended))) (λ f. record { urn = f.0; chunks = f.1.0; ended = f.1.1 }) (λ _. refl)

-- and a folder is its entries
abbrev pub held_code : Coded Held
held_code = map.code (coded_list coded_ℕ) (coded_list coded_ℕ)

-- the code of pages, by a code of the receipts
abbrev pub pages_code : {R : Type 0} → Coded R → Coded (Pages R)
pages_code {R} c =
    code_by (BookView × (List (Part R) × (Written × (Held × (ℕ × (Bool × Bool))))))
    (coded× seat_code (coded× (coded_list (piece_code c)) (coded× stream_code (coded× held_code (coded× coded_ℕ (coded× coded_bool coded_bool))))))
    (λ b. (b.seat, (b.pieces, (b.stream, (b.held, (b.faults, (b.stopped, b.memory)))))))
    (λ f. record { seat = f.0; pieces = f.1.0; stream = f.1.1.0; held = f.1.1.1.0; faults = f.1.1.1.1.0; stopped = f.1.1.1.1.1.0; memory = f.1.1.1.1.1.1 }) (λ _. refl)
