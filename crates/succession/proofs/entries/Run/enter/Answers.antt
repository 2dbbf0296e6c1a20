-- `enter` takes in no lane, a lane that a two-way lane leaves out, or one that it takes.
use Rattle.std.proofs.Common.{◌≡◌, false, not, ◌&&◌, refl, arith}
use Rattle.model.specs.Succession.{away}
use Rattle.succession.specs.ByRow.{direction_at}
use Rattle.succession.proofs.Absorbed.{took_barred, took_entered}
use Rattle.succession.proofs.Growth.{grown_none}
use Rattle.succession.proofs.entries.Run.enter.Goals.{then-not-self-via-then-not-self}
use Rattle.succession.proofs.entries.Run.enter.Goals.{then-not-self-via-else-not-self+then-runs_away}
use Rattle.succession.proofs.entries.Run.enter.Goals as goal

pub returns-then-not-self : goal.returns-then-not-self
returns-then-not-self c =
    let both = c.args.self.now.both in
    let kept : both && not (away (direction_at c.args.lanes.now c.in-Some.r) c.args.at_end) ≡ false =
    elim c.then-not-self.branch [
      | then-not-self-via-then-not-self w ↦ rw w.if-not-self.true refl
      | then-not-self-via-else-not-self+then-runs_away w ↦
          rw (w.if-not-self.false, ← w.direction.ensures, ← w.runs_away.ensures, w.if-runs_away.true) refl
    ] in
    rw c.in-Some.is (record {
      took = took_entered _ _ _ _ _ _ kept _ _ c.take_in.ensures.words.0 c.take_in.ensures.words.1;
      same = c.take_in.ensures.same;
    })

pub returns-else-runs_away : goal.returns-else-runs_away
returns-else-runs_away c =
    rw c.in-Some.is (record {
      took = took_barred _ _ _ _ _ _ (omega (arith, c.requires.room.fits))
          (rw (c.if-not-self.false, ← c.direction.ensures, ← c.runs_away.ensures, c.if-runs_away.false) refl);
      same = record { lent = refl; both = refl };
    })

pub returns-in_default : goal.returns-in_default
returns-in_default c = rw c.in_default.is (grown_none _ c.requires.room)
