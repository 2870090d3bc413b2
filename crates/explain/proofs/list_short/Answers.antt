-- `list_short` meets its contract. Assumes nothing.
use mathlib.Core.Path.{ap, ◌∙◌}
use Prim.Native.Nat.{ℕ}
use Rattle.explain.specs.declared.Explaining.{Explaining}
use Rattle.explain.specs.declared.evidence.Evidence.TheVariants.{Nothing}
use Rattle.explain.specs.Told.{told_of}
use Rattle.explain.proofs.list_short.Goals as goal

-- with another number of its own
numbered : ℕ → Explaining → Explaining
numbered n x = record { number = n; entries = x.entries; reading = x.reading; evidence = x.evidence; first = x.first; second = x.second }

pub returns : goal.returns
unfolding told_of numbered
returns c =
    ap (λ x. numbered c.number.result x) c.told.ensures ∙ ap (λ n. numbered n (told_of 0 c.args.entries c.accepted.result Nothing)) c.number.ensures
    ∙ ap (λ q. told_of 16 c.args.entries q Nothing) c.accepted.ensures
