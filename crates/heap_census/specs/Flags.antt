-- A flag for each role.
-- Source: this project's.
use Rattle.std.specs.Prelude.{Bool, true, false, not, ◌&&◌, ◌||◌}
use Rattle.heap_census.specs.declared.flags.Roles.{Roles}
use Rattle.heap_census.specs.declared.layouts.Role.{Role}
use Rattle.heap_census.specs.declared.layouts.Role.TheVariants as role

abbrev pub no_roles : Roles
no_roles = record { anchor = false; version = false; node = false; entry = false; text = false }

abbrev pub has_role : Roles → Role → Bool
has_role m role.Anchor = m.anchor
has_role m role.Version = m.version
has_role m role.Node = m.node
has_role m role.Entry = m.entry
has_role m role.Text = m.text

abbrev pub with_role : Roles → Role → Roles
with_role m role.Anchor = record m { anchor = true }
with_role m role.Version = record m { version = true }
with_role m role.Node = record m { node = true }
with_role m role.Entry = record m { entry = true }
with_role m role.Text = record m { text = true }

abbrev pub has_any : Roles → Bool
has_any m = m.anchor || m.version || m.node || m.entry || m.text

-- a cell in use without a role
abbrev pub floats : Bool → Roles → Bool
floats free m = not free && not (has_any m)
