-- One string a site.
use Rattle.std.specs.Prelude.{◌≡◌, ℕ, List, Contains}
use Rattle.merkle_forest.specs.Made.{Site, Strings}

-- at each site there is one string
abbrev pub OneEach : Strings → Type 0
OneEach list = (site : Site) (x y : List ℕ) → Contains list (site, x) → Contains list (site, y) → x ≡ y
