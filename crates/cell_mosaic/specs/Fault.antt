-- A device's fault, as what a source answers.
use Rattle.terrain_base.specs.declared.fault.DeviceFault.{DeviceFault}
use Rattle.terrain_base.specs.declared.fault.DeviceFault.TheVariants as device
use Rattle.cell_mosaic.specs.declared.fault.SourceFault.{SourceFault}
use Rattle.cell_mosaic.specs.declared.fault.SourceFault.TheVariants.{Failed, NoMemory}

abbrev pub fault_of : DeviceFault → SourceFault
fault_of device.Failed = Failed
fault_of device.NoMemory = NoMemory
