-- Publications, and the history that they form in their order.
use Rattle.std.specs.Prelude.{ℕ, suc, ◌/◌, ◌==◌, Bool, not, ◌&&◌, List, [], ◌∷◌, ◌++◌, filter, if◌then◌else◌}
use Rattle.std.specs.List.{list_any}
use Rattle.aff_model.specs.declared.limits.TheConstants.{CHUNK_SECTORS}
use Rattle.aff_model.specs.declared.publication.Place.{Place}
use Rattle.aff_model.specs.declared.publication.Place.TheVariants.{Nothing}

-- a publication as numbers and lists
pub record Published : Type 0 where
  pub extent : ℕ
  pub claimant : ℕ
  pub swept : Bool
  pub bad : List ℕ
  pub places : List Place

-- a publication with the digest and the receipt of each stored chunk
pub record Part (R : Type 0) : Type 0 where
  pub extent : ℕ
  pub claimant : ℕ
  pub swept : Bool
  pub bad : List ℕ
  pub places : List Place
  pub digests : List (List ℕ)
  pub receipts : List R

-- the publication of a piece
abbrev pub publication_of : {R : Type 0} → Part R → Published
publication_of p = record { extent = p.extent; claimant = p.claimant; swept = p.swept; bad = p.bad; places = p.places }

-- the publications of an extent, in their order: its readings
abbrev pub readings_of : List Published → ℕ → List Published
readings_of history e = filter (λ p. p.extent == e) history

-- the last publication of each extent, in their order
abbrev pub last_ones : List Published → List Published
last_ones [] = []
last_ones (p ∷ history) = if list_any (λ q. q.extent == p.extent) history then last_ones history else p ∷ last_ones history

-- some sector of chunk j is in the first list and not in the later one
abbrev pub is_regained : Published → Published → ℕ → Bool
is_regained first p j = list_any (λ s. (s / CHUNK_SECTORS == j) && not (list_any (λ t. t == s) p.bad)) first.bad

-- the places that a later reading changes, from chunk j on; a chunk that keeps its place counts as nothing new
abbrev pub fresh_places : Published → Published → ℕ → List Place → List Place
fresh_places first p j [] = []
fresh_places first p j (place ∷ places) = (if is_regained first p j then place else Nothing) ∷ fresh_places first p (suc j) places

-- a publication with what is new in it, where these readings of its extent came before
abbrev pub fresh_by : List Published → Published → Published
fresh_by [] p = p
fresh_by (first ∷ readings) p = record p { places = fresh_places first p 0 p.places }

-- each publication of a history with what is new in it, where these came before
abbrev pub fresh_from : List Published → List Published → List Published
fresh_from before [] = []
fresh_from before (p ∷ history) = fresh_by (readings_of before p.extent) p ∷ fresh_from (before ++ p ∷ []) history

abbrev pub fresh_ones : List Published → List Published
fresh_ones history = fresh_from [] history
