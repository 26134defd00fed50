-- How a ROM comes, as the reference program tells it.
use Rattle.dec_onewire.specs.declared.net.held.Role.{Role}
use Rattle.dec_onewire.specs.declared.net.held.Role.TheVariants as role
use Rattle.reference_devices.specs.declared.onewire_net.Rom.{Rom}
use Rattle.reference_devices.specs.declared.onewire_net.Rom.TheVariants.{Sent, Found}

abbrev pub role_of : Rom → Role
role_of Sent = role.Rom
role_of Found = role.Search
