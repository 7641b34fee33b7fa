-- A folder in memory: sorted names with their bytes.
use Rattle.std.specs.Prelude.{◌≡◌, ℕ, ◌<◌, ◌≤◌, List, None, Some, length, slice_index_or, slice_set, refl}
use Rattle.std.specs.List.{insert}
use Rattle.std.specs.Ordering.{nat_cmp}
use Rattle.std.specs.Cmp.Lexicographic.{slice_cmp}
use Rattle.std.specs.Coded.{Coded, code_by, coded×, coded_ℕ, coded_list}
use Rattle.std.specs.FinMap as map
use Rattle.aff_model.specs.Held.{Held}
use Rattle.aff_memory.specs.Counted.{Counted}

-- a folder with its calls, and which calls of each of its peeks are to fail
pub record Shelved : Type 0 where
  pub held : Held
  pub calls : Counted
  pub peek_fail : List ℕ

abbrev pub held_code : Coded Held
held_code = map.code (coded_list coded_ℕ) (coded_list coded_ℕ)

abbrev pub shelved_code : Coded Shelved
shelved_code =
    code_by (Held × (List ℕ × (List ℕ × (ℕ × ℕ)))) (coded× held_code (coded× (coded_list coded_ℕ) (coded× (coded_list coded_ℕ) (coded× coded_ℕ coded_ℕ))))
    (λ s. (s.held, (s.peek_fail, (s.calls.fail, (s.calls.made, s.calls.faults)))))
    (λ p. record { held = p.0; calls = record { fail = p.1.1.0; made = p.1.1.1.0; faults = p.1.1.1.1 }; peek_fail = p.1.0 }) (λ _. refl)

-- sorted entries as a folder
abbrev pub folder_of : List (List ℕ × List ℕ) → Held
folder_of entries = map.from_sorted entries

-- the segment has this index among the sorted entries: its bytes stand there, and to give it other bytes is to set that
-- entry
pub record StandsAt (entries : List (List ℕ × List ℕ)) (name : List ℕ) (i : ℕ) : Type 0 where
  pub inside : i < length entries
  pub found : (d : List ℕ × List ℕ) → map.find (slice_cmp nat_cmp) name entries ≡ Some (slice_index_or entries i d).1
  pub key : (d : List ℕ × List ℕ) → (slice_index_or entries i d).0 ≡ name
  pub set : (bytes : List ℕ) → map.put (slice_cmp nat_cmp) name bytes entries ≡ slice_set entries i (name, bytes)

-- there is no such segment, and to put it with any bytes among the sorted entries is to insert it at this index
pub record IsGap (entries : List (List ℕ × List ℕ)) (name : List ℕ) (i : ℕ) : Type 0 where
  pub inside : i ≤ length entries
  pub missing : map.find (slice_cmp nat_cmp) name entries ≡ None
  pub set : (bytes : List ℕ) → map.put (slice_cmp nat_cmp) name bytes entries ≡ insert entries i (name, bytes)
