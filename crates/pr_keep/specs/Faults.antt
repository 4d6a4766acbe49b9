-- How a fault of the disk is told.
use Rattle.pr_keep.specs.declared.disk.DiskFault.{DiskFault}
use Rattle.pr_keep.specs.declared.disk.DiskFault.TheVariants as disk_faults
use Rattle.pr_keep.specs.declared.fault.KeepFault.{KeepFault}
use Rattle.pr_keep.specs.declared.fault.KeepFault.TheVariants as keep_faults

abbrev pub fault_of : DiskFault → KeepFault
fault_of disk_faults.Failed = keep_faults.Failed
fault_of disk_faults.NoMemory = keep_faults.NoMemory
