-- The legality of an endpoint's settings, as the code tests it.
use Rattle.std.specs.Prelude.{ℕ, List, Bool, not, ◌&&◌, ◌||◌}
use Rattle.rules.specs.Elements.{items, has, could_store}
use Rattle.rules.specs.Book.{is_source}
use Rattle.rules.specs.Endpoints.{is_reported, far_right}
use Rattle.rules.specs.declared.FarSeid.{FarSeid}
use Rattle.rules.specs.Delays.{Delay}

-- what an endpoint keeps that is not idle, by the list and the kind of its entry
unfoldable pub settings_right : List ℕ → ℕ → FarSeid → List ℕ → Delay → Bool
settings_right caps kind far config delay =
    far_right far && could_store (items caps) config && (not (is_reported delay) || (is_source kind && has 8 (items config)))
