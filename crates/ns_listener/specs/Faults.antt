-- The fault of a server, for each fault of its threads and of settling.
use Rattle.ns_http.specs.declared.engine.ConnFault.{ConnFault}
use Rattle.ns_log.specs.declared.receipts.fault.SettleFault.{SettleFault}
use Rattle.ns_listener.specs.declared.fault.HostFault.{HostFault}
use Rattle.ns_listener.specs.declared.fault.ServeFault.{ServeFault}

abbrev pub host_fault : HostFault → ServeFault
host_fault HostFault.Accept = ServeFault.Conn ConnFault.Read
host_fault HostFault.Memory = ServeFault.Conn ConnFault.Memory

abbrev pub settle_fault : SettleFault → ServeFault
settle_fault (SettleFault.Mismatch seat place) = ServeFault.Mismatch
settle_fault SettleFault.Memory = ServeFault.Conn ConnFault.Memory
