-- A seat stays at its table.
use Rattle.std.proofs.Common.{◌≡◌}
use Rattle.atomic_table.specs.Seated.{TableId}
use Rattle.aff_claim.specs.declared.view.View.{View}
use Rattle.aff_claim.specs.Ranking.{Ranked}
use Rattle.aff_claim.specs.Values.{Table, Claiming}

-- the table of a seat
abbrev pub table_of : TableId → View → Table
table_of id v = record { id = id; extents = v.extents; workers = v.workers }

pub same_table : (now id : TableId) (w v : View) → now ≡ id → w.extents ≡ v.extents → w.workers ≡ v.workers → table_of now w ≡ table_of id v
same_table now id w v same extents workers = λ i. record { id = same i; extents = extents i; workers = workers i }

abbrev pub claims_of : TableId → View → Ranked → Claiming
claims_of id v ranking = record { table = table_of id v; ranking = ranking }

pub same_claims : (now id : TableId) (w v : View) (ranking : Ranked) → now ≡ id → w.extents ≡ v.extents → w.workers ≡ v.workers → claims_of now w ranking ≡ claims_of id v ranking
same_claims now id w v ranking same extents workers = λ i. record { table = same_table now id w v same extents workers i; ranking = ranking }
