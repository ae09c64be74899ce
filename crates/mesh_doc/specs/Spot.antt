-- The place that a spot stands for.
use Rattle.mesh_doc.specs.Places.{Steps, at_key, at_index}
use Rattle.mesh_doc.specs.declared.spot.Last.{Last}
use Rattle.mesh_doc.specs.declared.spot.Last.TheVariants as last

-- its steps from the whole
abbrev pub steps : Last → Steps
steps (last.Whole place) = place.now
steps (last.Name at name) = at_key name.now at.now
steps (last.Entry at index) = at_index index at.now
