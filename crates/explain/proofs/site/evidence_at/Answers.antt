-- `evidence_at` meets its contract, head by head. Assumes nothing.
use native.Mathlib.Omega.{arith}
use Prim.Native.Nat.{◌+◌}
use Rattle.std.specs.Prelude.{Ok, Err}
use Rattle.wire.specs.Heads.{HeadIs}
use Rattle.wire.specs.declared.head.Head.{Head}
use mathlib.Core.Path.{◌≡◌, refl, subst}
use Rattle.explain.specs.Told.{behind_of, head_in}
use Rattle.explain.proofs.Counting.{part_small}
use Rattle.explain.proofs.Heads.{open_fits}
use Rattle.explain.proofs.Sites.{head_handed, site_stop, site_given, opened_within, site_open}
use Rattle.explain.proofs.site.evidence_at.Goals as goal
use Rattle.explain.proofs.site.evidence_at.Goals.{In-Err, In-Ok, In-Open}

stops : (c : In-Err) → HeadIs (behind_of c.args.object) (Err c.in-Err.f) (head_in c.args.object)
stops c = head_handed _ _ _ _ _ _ (Err c.in-Err.f) c.first.ensures c.behind.ensures c.in-Err.ensures

says : (c : In-Ok) (x : Head) → c.in-Ok.head ≡ x → HeadIs (behind_of c.args.object) (Ok x) (head_in c.args.object)
says c x e = subst (λ y. HeadIs (behind_of c.args.object) (Ok y) (head_in c.args.object)) e (head_handed _ _ _ _ _ _ (Ok c.in-Ok.head) c.first.ensures c.behind.ensures c.in-Ok.ensures)

pub head_of-requires : goal.head_of-requires
head_of-requires c =
    rw c.behind.ensures (omega (arith, part_small c.args.object.message.now (c.args.object.from + 1) c.args.object.end (omega (arith, c.requires, c.args.object.within)), c.args.object.short))

pub stopped_at-requires : goal.stopped_at-requires
stopped_at-requires c = (c.requires, stops c)

pub returns-in-Err : goal.returns-in-Err
returns-in-Err c = site_stop _ _ _ _ c.in-Err.f (stops (goal.at.returns-in-Err c).In-Err) _ c.stopped_at.ensures

pub inside-requires : goal.inside-requires
inside-requires c = (
  opened_within _ _ _ _ c.in-Open.w c.in-Open.e (says (goal.at.inside-requires c).In-Ok _ c.in-Open.is) c.requires,
  (open_fits _ _ _ c.in-Ok.head c.in-Ok.ensures c.in-Open.w c.in-Open.e c.in-Open.is).2,
)

pub returns-in-Open : goal.returns-in-Open
returns-in-Open c =
    let e = c.inside.ensures in
    site_open _ _ _ _ c.in-Open.w c.in-Open.e (says (goal.at.returns-in-Open c).In-Ok _ c.in-Open.is) c.inside.result e.message e.depth e.from e.end _ c.closed_at.ensures

pub returns-in_default : goal.returns-in_default
returns-in_default c = site_given _ _ _ _ c.in-Ok.head (says (goal.at.returns-in_default c).In-Ok _ refl) c.in_default.not-Open
