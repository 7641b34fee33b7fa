use Rattle.std.proofs.Common.{[], ◌∷◌, refl, lit<}
use Rattle.aff_order.proofs.tests.each_worker_is_given_the_whole_order.Goals as goal

-- 0, 1, 2 becomes 2, 0, 1 by two exchanges
pub orders-requires : goal.orders-requires
orders-requires c _ = record { moves = (1, 2) ∷ (0, 2) ∷ []; below = (lit< tt, lit< tt, (lit< tt, lit< tt, tt)); is = refl }
