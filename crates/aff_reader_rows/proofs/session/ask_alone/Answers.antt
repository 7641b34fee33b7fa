use Rattle.std.proofs.Common.{[], arith}
use mathlib.Core.List.{IsPrefix}
use Rattle.aff_reader_rows.proofs.Requests.{live_same, none_grown}
use Rattle.aff_reader_rows.proofs.session.ask_alone.Goals as goal

pub close-requires-clause-sound : goal.close-requires-clause-sound
close-requires-clause-sound c κs = λ k d low. absurd (omega (arith, low))

pub close-requires-clause-seen : goal.close-requires-clause-seen
close-requires-clause-seen c κs = λ none. none_grown c.args.session.now.viewer c.live.new.self.viewer (λ v. IsPrefix v.pieces []) c.requires.viewer c.live.ensures.kept.viewer

pub close-requires-clause-live : goal.close-requires-clause-live
close-requires-clause-live c κs = λ none. live_same c.args.session.now.plan c.live.new.self.plan _ _ c.live.new.self.viewer c.args.session.now.requests c.live.new.self.requests c.live.new.self.answers c.live.ensures.kept.plan c.live.ensures.kept.requests (c.live.ensures.answers none)
