pub mod PortalTable
pub mod Sides
