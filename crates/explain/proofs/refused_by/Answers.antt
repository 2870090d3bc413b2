-- `refused_by` meets its contract. Assumes nothing.
use Rattle.explain.proofs.Answering.{short_told, listed_told}
use Rattle.explain.proofs.refused_by.Goals as goal

pub returns-then-list-places : goal.returns-then-list-places
returns-then-list-places c =
    short_told _ _ _ _ _ _ c.descend-object.ensures c.places-places.ensures _ c.if-list-places.true c.list_short.ensures

pub returns : goal.returns
returns c =
    listed_told _ _ _ _ _ _ c.descend-object.ensures c.places-places.ensures _ _ _ _ c.if-list-places.false c.told.ensures c.from.ensures c.evidence_at.ensures c.put_places.ensures
